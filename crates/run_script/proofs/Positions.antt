-- Where a script has been read to, as a position of its lines.
use Rattle.std.proofs.Common.{◌≡◌, ◌⊎◌, inl, inr, ℕ, ℤ, pos, ◌+◌, ◌-◌, ◌<◌, ◌≤◌, ◌^◌, Bool, true, false, cond, List, [], ◌∷◌, ◌++◌, length, refl, ap, ap₂, sym, subst, ◌∙◌, arith, Option, Some, None, Result, Ok, Err}
use Rattle.std.specs.Prelude.{All, MatchResult, int_le}
use Rattle.std.proofs.lemmas.List.{map-append}
use Rattle.std.proofs.lemmas.List.Elements.{All-push}
use Rattle.map_tables.specs.Tables.{Tables}
use Rattle.map_script.specs.Errors.{code_of}
use Rattle.map_script.specs.Scopes.{Scope, mark_of, released, with_block}
use Rattle.map_script.specs.declared.error.DrawError.{DrawError}
use Rattle.map_script.specs.declared.error.DrawError.TheVariants.{OutOfMemory}
use Rattle.map_script.specs.declared.looping.Range.{Range}
use Rattle.map_script.specs.declared.placing.Placing.{Placing}
use Rattle.map_script.specs.declared.referent.Answer.{Answer}
use Rattle.map_blocks.specs.Blocks.{behind_block, lines_between, block_len, block_lines}
use Rattle.run_script.specs.Turns.{Counting, EndsTurn, OpensBlock, Position, Turn, after_at, after_count, after_loop, after_names, after_turn, counted_names, first_count, in_turn, next_count, turn_at, with_naming}
use Rattle.run_script.specs.Places.{AreBlocksTold, Enters, IsBlockWithin, IsNextBlock, IsWithinLines, counting_of, naming_in, position_of, turn_of, turns_of}
use Rattle.run_script.specs.declared.reading.Block.{Block}
use Rattle.run_script.specs.declared.reading.Count.{Count}
use Rattle.run_script.specs.declared.reading.Reading.{Reading}
use Rattle.map_blocks.proofs.PlacedLines.{behind_is, body_is}

-- one turn more
pub turns_more : (all : List (ℕ × (ℕ × List ℕ))) (bs outer : List Block) (b : Block) → bs ≡ outer ++ b ∷ []
    → turns_of all bs ≡ turns_of all outer ++ turn_of all b ∷ []
turns_more all bs outer b is = ap (turns_of all) is ∙ map-append (turn_of all) outer (b ∷ [])

-- a block that was entered is in its turn
pub entered : (all : List (ℕ × (ℕ × List ℕ))) (names named : Scope) (placing : Placing) (outer : List Block) (b : Block) (r : Reading) (t : Turn)
    → Enters names placing outer b named r → turn_of all b ≡ t → position_of all named r ≡ in_turn names placing (turns_of all outer) t
entered all names named placing outer b r t e is =
    let held : named ≡ counted_names (with_block names placing) t.count = e.names ∙ ap (λ (u : Turn). counted_names (with_block names placing) u.count) is in
    let lines : lines_between all r.place r.until ≡ t.body = ap₂ (λ (i j : ℕ). lines_between all i j) e.place e.until ∙ ap (λ (u : Turn). u.body) is in
    let turns : turns_of all r.blocks.items ≡ turns_of all outer ++ t ∷ [] =
    turns_more all r.blocks.items outer b e.blocks ∙ ap (λ (u : Turn). turns_of all outer ++ u ∷ []) is in
    λ i. record { names = held i; lines = lines i; turns = turns i }

pub enters_from : (names others named : Scope) (placing : Placing) (outer : List Block) (b : Block) (r : Reading) → names ≡ others
    → placing ≡ names.placing → Enters names placing outer b named r → Enters others others.placing outer b named r
enters_from names others named placing outer b r same at e =
    subst (λ (n : Scope). Enters n n.placing outer b named r) same (subst (λ (p : Placing). Enters names p outer b named r) at e)

-- ---- The line of a block

-- the block that the next line opens is in its first turn
pub next_block : (all : List (ℕ × (ℕ × List ℕ))) (close len : ℕ) (names : Scope) (count : Option Counting) (r : Reading) (b : Block)
    → IsNextBlock close (mark_of names) count r b → len ≡ block_len 0 (lines_between all (r.place + 1) r.until) → r.place + 1 + len ≤ r.until → close ≡ r.place + 1 + len
    → turn_of all b ≡ turn_at names r.place (lines_between all (r.place + 1) r.until) count
next_block all close len names count r b f is within at =
    let body : lines_between all b.from b.end ≡ block_lines (lines_between all (r.place + 1) r.until) =
    ap₂ (λ (i j : ℕ). lines_between all i j) f.from f.end ∙ sym (body_is all (r.place + 1) len r.until close is within at) in
    let behind : lines_between all b.next b.until ≡ behind_block (lines_between all (r.place + 1) r.until) =
    ap₂ (λ (i j : ℕ). lines_between all i j) f.next f.until ∙ sym (behind_is all (r.place + 1) len r.until close is at) in
    λ i. record {
      place = f.place i;
      count = f.count i;
      naming = f.naming i;
      body = body i;
      behind = behind i;
      before = f.before i;
    }

-- what a line led to was met
pub met : (outcome : Result Position DrawError) (names : Scope) (p q : Position) → outcome ≡ Ok q → p ≡ q → OpensBlock outcome names None p
met outcome names p q is same = inl (rw is (refl, same))

-- the line of a loop that has a turn
pub loop_met : (names : Scope) (place : ℕ) (lines : List (ℕ × (ℕ × List ℕ))) (turns : List Turn) (words : List (List ℕ)) (outcome : Result Range DrawError)
    (range : Range) (p : Position) → outcome ≡ Ok range → int_le range.from range.to ≡ true
    → p ≡ in_turn names names.placing turns (turn_at names place lines (Some (first_count words range)))
    → OpensBlock (after_loop names place lines turns words outcome) names None p
loop_met names place lines turns words outcome range p is some same =
    let first = in_turn names names.placing turns (turn_at names place lines (Some (first_count words range))) in
    met (after_loop names place lines turns words outcome) names p first
    (ap (after_loop names place lines turns words) is ∙ ap (λ t. cond t (Ok first) (Ok (record { names = names; lines = behind_block lines; turns = turns }))) some) same

-- the line of an `at`
pub at_met : (names : Scope) (place : ℕ) (lines : List (ℕ × (ℕ × List ℕ))) (turns : List Turn) (outcome : Result Placing DrawError) (placing : Placing)
    (p : Position) → outcome ≡ Ok placing → p ≡ in_turn names placing turns (turn_at names place lines None)
    → OpensBlock (after_at names place lines turns outcome) names None p
at_met names place lines turns outcome placing p is same =
    met (after_at names place lines turns outcome) names p (in_turn names placing turns (turn_at names place lines None))
    (ap (after_at names place lines turns) is) same

-- ---- The end of a turn

at_end : (outcome : Result Position DrawError) (p q : Position) → outcome ≡ Ok q → p ≡ q
    → MatchResult outcome (λ at. (◌≡◌ {A = Option ℕ} None None) × (p ≡ at)) (λ fault. ◌≡◌ {A = Option ℕ} None (Some (code_of fault)))
at_end outcome p q is same = rw is (refl, same)

refused : (outcome : Result Position DrawError) (p : Position) (e : DrawError) → outcome ≡ Err e
    → MatchResult outcome (λ at. (◌≡◌ {A = Option ℕ} (Some (code_of e)) None) × (p ≡ at)) (λ fault. ◌≡◌ {A = Option ℕ} (Some (code_of e)) (Some (code_of fault)))
refused outcome p e is = rw is refl

-- a turn ended, and the names of its line hold
ended : (all : List (ℕ × (ℕ × List ℕ))) (names mid : Scope) (m : Tables) (bs outer : List Block) (b : Block) (p : Position) → bs ≡ outer ++ b ∷ []
    → with_naming (released names b.before) m names.answered (naming_in b.naming) ≡ Ok mid
    → p ≡ after_count mid (turns_of all outer) (turn_of all b) (next_count (counting_of b.count)) → EndsTurn names m (turns_of all bs) None p
ended all names mid m bs outer b p split named same =
    let turns = turns_of all outer in
    let t : Turn = turn_of all b in (
      turns,
      t,
      turns_more all bs outer b split,
      inl (at_end (after_turn names m turns t) p (after_count mid turns t (next_count t.count)) (ap (after_names turns t) named) same),
    )

-- its line's name got its numbers behind the turn
pub given_from : (s names : Scope) (t m : Tables) (last : Option Answer) (b : Block) (outcome : Result Scope DrawError) → s ≡ released names b.before → t ≡ m → last ≡ names.answered
    → with_naming s t last (naming_in b.naming) ≡ outcome → with_naming (released names b.before) m names.answered (naming_in b.naming) ≡ outcome
given_from s names t m last b outcome is same answer given =
    sym (ap₂ (λ (x : Scope) (y : Tables). with_naming x y last (naming_in b.naming)) is same
    ∙ ap (λ (a : Option Answer). with_naming (released names b.before) m a (naming_in b.naming)) answer) ∙ given

-- a block whose turn ended is in the next one
pub turned : (all : List (ℕ × (ℕ × List ℕ))) (names mid named : Scope) (m : Tables) (bs outer : List Block) (b c : Block) (count : Count) (next : Option Counting) (r : Reading)
    → bs ≡ outer ++ b ∷ [] → with_naming (released names b.before) m names.answered (naming_in b.naming) ≡ Ok mid
    → next ≡ next_count (counting_of b.count) → counting_of (Some count) ≡ next
    → turn_of all c ≡ record {
      place = b.place;
      count = counting_of (Some count);
      naming = naming_in b.naming;
      body = lines_between all b.from b.end;
      behind = lines_between all b.next b.until;
      before = b.before;
    }
    → Enters mid mid.placing outer c named r
    → EndsTurn names m (turns_of all bs) None (position_of all named r)
turned all names mid named m bs outer b c count next r split given is some same e =
    ended all names mid m bs outer b (position_of all named r) split given
    (entered all mid named mid.placing outer c r _ e same ∙ ap (after_count mid (turns_of all outer) (turn_of all b)) (some ∙ is))

-- or it is left
pub left : (all : List (ℕ × (ℕ × List ℕ))) (names mid : Scope) (m : Tables) (bs outer : List Block) (b : Block) → bs ≡ outer ++ b ∷ []
    → with_naming (released names b.before) m names.answered (naming_in b.naming) ≡ Ok mid → None ≡ next_count (counting_of b.count)
    → EndsTurn names m (turns_of all bs) None (record { names = mid; lines = lines_between all b.next b.until; turns = turns_of all outer })
left all names mid m bs outer b split given none =
    ended all names mid m bs outer b (record { names = mid; lines = lines_between all b.next b.until; turns = turns_of all outer }) split given
    (ap (after_count mid (turns_of all outer) (turn_of all b)) none)

-- there was no memory for the next one
pub not-turned : (all : List (ℕ × (ℕ × List ℕ))) (names : Scope) (m : Tables) (bs outer : List Block) (b : Block) (code : ℕ) (p : Position) → bs ≡ outer ++ b ∷ [] → code ≡ 31
    → EndsTurn names m (turns_of all bs) (Some code) p
not-turned all names m bs outer b code p split is = (turns_of all outer, turn_of all b, turns_more all bs outer b split, inr (ap Some is))

-- or the shape can't be named
pub not-named : (all : List (ℕ × (ℕ × List ℕ))) (names : Scope) (m : Tables) (bs outer : List Block) (b : Block) (e : DrawError) (p : Position) → bs ≡ outer ++ b ∷ []
    → (e ≡ OutOfMemory) ⊎ (with_naming (released names b.before) m names.answered (naming_in b.naming) ≡ Err e)
    → EndsTurn names m (turns_of all bs) (Some (code_of e)) p
not-named all names m bs outer b e p split (inl memory) = not-turned all names m bs outer b (code_of e) p split (ap code_of memory)
not-named all names m bs outer b e p split (inr is) =
    let turns = turns_of all outer in
    let t : Turn = turn_of all b in (
      turns,
      t,
      turns_more all bs outer b split,
      inl (refused (after_turn names m turns t) p e (ap (after_names turns t) is)),
    )

-- a block that was entered stands within the lines, as those around it
pub entered_within : (count : ℕ) → count < 2 ^ 63 → (names named : Scope) (placing : Placing) (outer : List Block) (b : Block) (r : Reading) → Enters names placing outer b named r → All (IsBlockWithin count) outer
    → IsBlockWithin count b → AreBlocksTold r → IsWithinLines count r
entered_within count few names named placing outer b r e all w told = record {
  few = few;
  until = omega (arith, e.until, w.end);
  blocks = subst (λ (bs : List Block). All (IsBlockWithin count) bs) (sym e.blocks) (All-push (IsBlockWithin count) outer b all w);
  told = told;
}
