-- The blocks that are told where a script stopped.
use Rattle.std.proofs.Common.{◌≡◌, ◌⊎◌, inl, inr, ℕ, ◌+◌, ◌-◌, ◌<◌, ◌≤◌, ◌==◌, ◌||◌, Bool, true, false, List, [], ◌∷◌, ◌++◌, length, take, get_or, map, refl, ap, sym, subst, ◌∙◌, arith, append-nil, Option, Some, None, Result, Ok, Err}
use Rattle.std.specs.Prelude.{All, IfOk, IfSome, flat_map, if◌then◌else◌, reverse}
use Rattle.std.specs.Io.KnownBytes.{Appends}
use Rattle.std.proofs.KnownBytes.{Appends-trans}
use Rattle.std.proofs.lemmas.List.{get_or-reverse, length-map, length-reverse, length_push, map-append, take-map, take_at, take_more}
use Rattle.std.proofs.lemmas.List.Concat.{flat_map-append}
use Rattle.std.proofs.lemmas.List.Elements.{All-map, All-nil, All-take, All-weaker}
use Rattle.map_blocks.specs.Blocks.{lines_between, with_places}
use Rattle.run_script.specs.Opened.{open_blocks, told_turn, turns_around}
use Rattle.run_script.specs.Places.{AreBlocksTold, IsBlockWithin, IsToldBehind, IsWithinLines, told_around, told_block, turn_of, turns_of}
use Rattle.map_blocks.specs.Stops.{IsStop, IsStopWithin}
use Rattle.run_script.specs.Turns.{Turn}
use Rattle.map_blocks.specs.declared.stop.OpenBlock.{OpenBlock}
use Rattle.map_blocks.specs.declared.stop.Stop.{Stop}
use Rattle.run_canvas.specs.declared.error.ScriptError.{ScriptError}
use Rattle.run_script.specs.declared.reading.Block.{Block}
use Rattle.run_script.specs.declared.reading.Reading.{Reading}
use Rattle.map_blocks.proofs.PlacedLines.{line_at, next_line, none_left}

-- ---- Blocks that are entered and left

-- what is told of turns is told of their blocks
told_turns : (all : List (ℕ × (ℕ × List ℕ))) (bs : List Block) → map told_turn (turns_of all bs) ≡ map told_block bs
told_turns all [] = refl
told_turns all (b ∷ bs) = ap (λ (ts : List OpenBlock). told_block b ∷ ts) (told_turns all bs)

-- one block more
pub told_more : (told new : List OpenBlock) (t : OpenBlock) (bs cs : List Block) (b : Block) → told ≡ map told_block bs → t ≡ told_block b → new ≡ told ++ t ∷ [] → cs ≡ bs ++ b ∷ []
    → new ≡ map told_block cs
told_more told new t bs cs b is same more blocks =
    more ∙ ap (λ (ts : List OpenBlock). ts ++ t ∷ []) is ∙ ap (λ (u : OpenBlock). map told_block bs ++ u ∷ []) same ∙ sym (map-append told_block bs (b ∷ []))
    ∙ sym (ap (map told_block) blocks)

but_last : (xs : List OpenBlock) (y : OpenBlock) → take (length (xs ++ y ∷ []) - 1) (xs ++ y ∷ []) ≡ xs
but_last xs y =
    let len : length xs ≡ length (xs ++ y ∷ []) - 1 = omega (arith, length_push xs y) in
    take_at xs (y ∷ []) (length (xs ++ y ∷ []) - 1) len

-- one less
pub told_less : (told new : List OpenBlock) (bs outer : List Block) (b : Block) → told ≡ map told_block bs → bs ≡ outer ++ b ∷ [] → new ≡ take (length told - 1) told
    → new ≡ map told_block outer
told_less told new bs outer b is split less =
    let whole : told ≡ map told_block outer ++ told_block b ∷ [] = is ∙ ap (map told_block) split ∙ map-append told_block outer (b ∷ []) in
    less ∙ ap (λ (ts : List OpenBlock). take (length ts - 1) ts) whole ∙ but_last (map told_block outer) (told_block b)

-- ---- What is around a line, or around the end of a block

pub around_line : (lines : List (ℕ × List ℕ)) (r : Reading) → r.until ≤ length lines → r.place < r.until → AreBlocksTold r → r.told.items ≡ told_around (with_places lines) r
around_line lines r inside there told =
    let (x, is) = line_at lines r.place (omega (arith, inside, there)) in
    let turns : List Turn = turns_of (with_places lines) r.blocks.items in
    let same : turns_around (lines_between (with_places lines) r.place r.until) turns ≡ turns =
    ap (λ (ls : List (ℕ × (ℕ × List ℕ))). turns_around ls turns) (next_line lines r.place r.until x is there) in
    told ∙ sym (told_turns (with_places lines) r.blocks.items) ∙ sym (ap (map told_turn) same)

pub around_end : (all : List (ℕ × (ℕ × List ℕ))) (r : Reading) (blocks : List OpenBlock) → r.until ≤ r.place → AreBlocksTold r → blocks ≡ take (length r.told.items - 1) r.told.items
    → blocks ≡ told_around all r
around_end all r blocks over told less =
    let turns : List Turn = turns_of all r.blocks.items in
    let none : turns_around (lines_between all r.place r.until) turns ≡ take (length turns - 1) turns =
    ap (λ (ls : List (ℕ × (ℕ × List ℕ))). turns_around ls turns) (none_left r.place r.until all over) in
    let same : r.told.items ≡ map told_turn turns = told ∙ sym (told_turns all r.blocks.items) in
    less ∙ ap (λ (ts : List OpenBlock). take (length ts - 1) ts) same ∙ ap (λ (n : ℕ). take (n - 1) (map told_turn turns)) (length-map turns told_turn)
    ∙ take-map told_turn (length turns - 1) turns ∙ sym (ap (map told_turn) none)

-- ---- A step

-- the blocks stayed
pub any_told : (result : Result (Option ℕ) ScriptError) (told : List OpenBlock) (s : Reading) → s.told.items ≡ told
    → IfOk result (λ refusal. IfSome refusal (λ code. IsToldBehind code told s))
any_told (Ok None) told s is = tt
any_told (Ok (Some code)) told s is = inr is
any_told (Err e) told s is = tt

-- behind a refused line
pub line_told : (lines : List (ℕ × List ℕ)) (r s : Reading) (result : Result (Option ℕ) ScriptError) → r.until ≤ length lines → r.place < r.until → AreBlocksTold r
    → IfOk result (λ refusal. IfSome refusal (λ code. IsToldBehind code r.told.items s))
    → IfOk result (λ refusal. IfSome refusal (λ code. IsToldBehind code (told_around (with_places lines) r) s))
line_told lines r s (Ok None) inside there told still = tt
line_told lines r s (Ok (Some code)) inside there told (inl memory) = inl memory
line_told lines r s (Ok (Some code)) inside there told (inr is) = inr (is ∙ around_line lines r inside there told)
line_told lines r s (Err e) inside there told still = tt

-- behind the refused end of a turn
pub end_told : (all : List (ℕ × (ℕ × List ℕ))) (r s : Reading) (refusal : Option ℕ) → r.until ≤ r.place → AreBlocksTold r
    → IfSome refusal (λ code. IsToldBehind code (take (length r.told.items - 1) r.told.items) s) → IfSome refusal (λ code. IsToldBehind code (told_around all r) s)
end_told all r s None over told less = tt
end_told all r s (Some code) over told (inl memory) = inl memory
end_told all r s (Some code) over told (inr is) = inr (around_end all r s.told.items over told is)

-- ---- A stop

-- its blocks
pub open_are : (all : List (ℕ × (ℕ × List ℕ))) (r s : Reading) (code : ℕ) → IsToldBehind code (told_around all r) s
    → (if (code == 30) || (code == 31) then [] else s.told.items) ≡ open_blocks code (lines_between all r.place r.until) (turns_of all r.blocks.items)
open_are all r s code (inl memory) =
    subst (λ (c : ℕ). (if (c == 30) || (c == 31) then [] else s.told.items) ≡ open_blocks c (lines_between all r.place r.until) (turns_of all r.blocks.items)) (sym memory) refl
open_are all r s code (inr is) = ap (λ (bs : List OpenBlock). if (code == 30) || (code == 31) then [] else bs) is

all_around : (count : ℕ) (lines : List (ℕ × (ℕ × List ℕ))) (turns : List Turn) → All (λ (t : Turn). t.place < count) turns
    → All (λ (t : Turn). t.place < count) (turns_around lines turns)
all_around count [] turns within = All-take (λ (t : Turn). t.place < count) (length turns - 1) turns within
all_around count (l ∷ ls) turns within = within

all_unless : (none : Bool) (count : ℕ) (bs : List OpenBlock) → All (λ (b : OpenBlock). b.place < count) bs → All (λ (b : OpenBlock). b.place < count) (if none then [] else bs)
all_unless true count bs within = All-nil (λ (b : OpenBlock). b.place < count)
all_unless false count bs within = within

-- they are among so many lines
pub all_open : (count code : ℕ) (all : List (ℕ × (ℕ × List ℕ))) (r : Reading) → IsWithinLines count r
    → All (λ (b : OpenBlock). b.place < count) (open_blocks code (lines_between all r.place r.until) (turns_of all r.blocks.items))
all_open count code all r within =
    let turns : List Turn = turns_of all r.blocks.items in
    let left : List (ℕ × (ℕ × List ℕ)) = lines_between all r.place r.until in
    let blocks = All-weaker (IsBlockWithin count) (λ (b : Block). b.place < count) (λ b w. w.place) r.blocks.items within.blocks in
    let each : All (λ (t : Turn). t.place < count) turns = All-map (λ (t : Turn). t.place < count) (turn_of all) r.blocks.items blocks in
    all_unless ((code == 30) || (code == 31)) count (told_around all r)
    (All-map (λ (b : OpenBlock). b.place < count) told_turn (turns_around left turns) (all_around count left turns each))

pub stop_within : (count line code : ℕ) (told : List OpenBlock) (stop : Stop) → IsStop line code told stop → line < count → All (λ (b : OpenBlock). b.place < count) told
    → IsStopWithin count stop
stop_within count line code told stop is below within = (
  subst (λ (p : ℕ). p < count) (sym is.place) below,
  subst (λ (bs : List OpenBlock). All (λ (b : OpenBlock). b.place < count) bs) (sym is.blocks) within,
)

pub stop_told : (line code : ℕ) (told blocks : List OpenBlock) (stop : Stop) → IsStop line code told stop → told ≡ blocks → IsStop line code blocks stop
stop_told line code told blocks stop is same = record { place = is.place; code = is.code; blocks = is.blocks ∙ same }

-- that of a line in no block
pub alone_within : (count line code : ℕ) (stop : Stop) → IsStop line code [] stop → line < count → IsStopWithin count stop
alone_within count line code stop is below = stop_within count line code [] stop is below (All-nil (λ (b : OpenBlock). b.place < count))

-- ---- Their lines
