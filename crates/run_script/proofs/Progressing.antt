-- A script that is drawn line by line, and turn by turn.
use Rattle.std.proofs.Common.{◌≡◌, ◌⊎◌, inl, inr, ℕ, ◌+◌, ◌<◌, ◌≤◌, ◌^◌, Bool, List, [], ◌∷◌, ◌++◌, length, map, refl, ap, ap₂, sym, subst, ◌∙◌, arith, Option, Some, None, Result, Ok, Err}
use Rattle.std.specs.Prelude.{All, slice_get, IfNone, IfOk, MatchOption, MatchResult, suc, zero}
use Rattle.std.proofs.lemmas.List.Elements.{All-nil}
use Rattle.map_tables.specs.Projects.{current_map}
use Rattle.map_tables.specs.Tables.{Tables}
use Rattle.map_script.specs.Ats.{at_placing, at_words}
use Rattle.map_script.specs.Defines.{call_words, define_fault, define_words}
use Rattle.map_script.specs.Known.{scope_of}
use Rattle.map_script.specs.Lines.{name_in}
use Rattle.map_script.specs.Loops.{loop_range, loop_words}
use Rattle.map_script.specs.Scopes.{Scope, first_scope}
use Rattle.map_script.specs.declared.error.DrawError.{DrawError}
use Rattle.map_script.specs.Words.{text_words}
use Rattle.map_script.specs.declared.names.Names.{Names}
use Rattle.map_blocks.specs.Blocks.{lines_between, with_places}
use Rattle.map_blocks.specs.Defined.{Shape, shape_called}
use Rattle.run_script.specs.Drawn.{Advances, AdvancesOver, ComesTo, DrawsNext, Progress, Steps, at_first, at_position, opened_by}
use Rattle.run_script.specs.Lines.{DrawsLine, Sketch, sketch_of}
use Rattle.run_script.specs.Turns.{EndsTurn, OpensBlock, Position, Turn, after_at, after_drawing, after_define, after_loop, after_naming, after_opening, after_words, line_naming}
use Rattle.run_script.specs.Places.{AdvancesTo, IsBlockWithin, IsFirstReading, IsWithinLines, position_of, progress_of, told_block, turns_of}
use Rattle.run_canvas.specs.declared.canvas.Canvas.{Ghosts}
use Rattle.run_canvas.specs.declared.error.ScriptError.{ScriptError}
use Rattle.run_canvas.specs.declared.error.ScriptError.TheVariants as cut
use Rattle.run_script.specs.declared.reading.Block.{Block}
use Rattle.run_script.specs.declared.reading.Reading.{Reading}
use Rattle.map_blocks.proofs.PlacedLines.{all_between, next_line, none_left}

-- what holds anyway
pub any_ok : {E : Type 0} (result : Result (Option ℕ) E) {P : Type 0} → P → IfOk result (λ refusal. IfNone refusal P)
any_ok (Ok None) p = p
any_ok (Ok (Some code)) p = tt
any_ok (Err e) p = tt

-- ---- One line, or the end of a turn

at_block : {S : Type 0} (facts : Ghosts S) (verbose : Bool) (shapes : List Shape) (l : ℕ × (ℕ × List ℕ)) (ls : List (ℕ × (ℕ × List ℕ))) (old new : Progress S)
    (outcome : Result Position DrawError) (refusal : Option ℕ) (at : Position) → opened_by facts shapes l ls old ≡ Some outcome
    → OpensBlock outcome old.sketch.names refusal at → new ≡ at_position old.sketch at → AdvancesOver facts verbose shapes (l ∷ ls) old refusal new
at_block facts verbose shapes l ls old new outcome refusal at is opens same = rw is (at, opens, same)

at_other : {S : Type 0} (facts : Ghosts S) (verbose : Bool) (shapes : List Shape) (l : ℕ × (ℕ × List ℕ)) (ls : List (ℕ × (ℕ × List ℕ))) (old new : Progress S) (refusal : Option ℕ)
    → opened_by facts shapes l ls old ≡ None → DrawsNext facts verbose l.1 ls old refusal new → AdvancesOver facts verbose shapes (l ∷ ls) old refusal new
at_other facts verbose shapes l ls old new refusal is drawn = rw is drawn

-- the line of a block
pub met_block : {S : Type 0} (facts : Ghosts S) (verbose : Bool) (shapes : List Shape) (lines : List (ℕ × List ℕ)) (x : ℕ × List ℕ) (canvas : S) (names named : Scope) (w : Option (List ℕ))
    (r s : Reading) (outcome : Result Position DrawError) (refusal : Option ℕ) → slice_get lines r.place ≡ Some x → r.place < r.until
    → after_opening names (current_map (facts.maps_in canvas)) shapes r.place (lines_between (with_places lines) (r.place + 1) r.until)
    (turns_of (with_places lines) r.blocks.items) (text_words x.1) ≡ Some outcome
    → OpensBlock outcome names refusal (position_of (with_places lines) named s)
    → Advances facts verbose shapes (progress_of (with_places lines) canvas names w r) refusal (progress_of (with_places lines) canvas named w s)
met_block facts verbose shapes lines x canvas names named w r s outcome refusal is inside block opens =
    let all : List (ℕ × (ℕ × List ℕ)) = with_places lines in
    let old = progress_of all canvas names w r in
    let new = progress_of all canvas named w s in
    subst (λ (left : List (ℕ × (ℕ × List ℕ))). AdvancesOver facts verbose shapes left old refusal new) (sym (next_line lines r.place r.until x is inside))
    (at_block facts verbose shapes (r.place, x) (lines_between all (r.place + 1) r.until) old new outcome refusal (position_of all named s) block opens refl)

-- the line of a loop, of an `at` or of a `define`, or one that draws a shape, leads there
pub by_loop : (names : Scope) (m : Tables) (shapes : List Shape) (place : ℕ) (lines : List (ℕ × (ℕ × List ℕ))) (turns : List Turn) (ws words : List (List ℕ))
    → loop_words ws ≡ Some words → after_opening names m shapes place lines turns ws ≡ Some (after_loop names place lines turns words (loop_range names m words))
by_loop names m shapes place lines turns ws words is =
    ap (λ (o : Option (List (List ℕ))). after_words names m place lines turns o (at_words ws)
    (after_naming names m place lines turns ws (define_words ws) (shape_called shapes place ws))) is

pub by_at : (names : Scope) (m : Tables) (shapes : List Shape) (place : ℕ) (lines : List (ℕ × (ℕ × List ℕ))) (turns : List Turn) (ws words : List (List ℕ))
    → loop_words ws ≡ None → at_words ws ≡ Some words
    → after_opening names m shapes place lines turns ws ≡ Some (after_at names place lines turns (at_placing names m words))
by_at names m shapes place lines turns ws words none is =
    ap₂ (λ (o p : Option (List (List ℕ))). after_words names m place lines turns o p
    (after_naming names m place lines turns ws (define_words ws) (shape_called shapes place ws))) none is

by_naming : (names : Scope) (m : Tables) (shapes : List Shape) (place : ℕ) (lines : List (ℕ × (ℕ × List ℕ))) (turns : List Turn) (ws : List (List ℕ))
    → loop_words ws ≡ None → at_words ws ≡ None
    → after_opening names m shapes place lines turns ws ≡ after_naming names m place lines turns ws (define_words ws) (shape_called shapes place ws)
by_naming names m shapes place lines turns ws none neither =
    ap₂ (λ (o p : Option (List (List ℕ))). after_words names m place lines turns o p
    (after_naming names m place lines turns ws (define_words ws) (shape_called shapes place ws))) none neither

pub by_define : (names : Scope) (m : Tables) (shapes : List Shape) (place : ℕ) (lines : List (ℕ × (ℕ × List ℕ))) (turns : List Turn) (ws words : List (List ℕ))
    → loop_words ws ≡ None → at_words ws ≡ None → define_words ws ≡ Some words
    → after_opening names m shapes place lines turns ws ≡ Some (after_define names lines turns (define_fault words))
by_define names m shapes place lines turns ws words none neither is =
    by_naming names m shapes place lines turns ws none neither
    ∙ ap (λ (o : Option (List (List ℕ))). after_naming names m place lines turns ws o (shape_called shapes place ws)) is

pub by_shape : (names : Scope) (m : Tables) (shapes : List Shape) (place : ℕ) (lines : List (ℕ × (ℕ × List ℕ))) (turns : List Turn) (ws : List (List ℕ)) (shape : Shape)
    → loop_words ws ≡ None → at_words ws ≡ None → define_words ws ≡ None → shape_called shapes place ws ≡ Some shape
    → after_opening names m shapes place lines turns ws ≡ Some (after_drawing names place lines turns (line_naming m (name_in ws)) shape (call_words names m shape.parameters ws))
by_shape names m shapes place lines turns ws shape none neither not is =
    by_naming names m shapes place lines turns ws none neither
    ∙ ap₂ (λ (o : Option (List (List ℕ))) (s : Option Shape). after_naming names m place lines turns ws o s) not is

pub by_none : (names : Scope) (m : Tables) (shapes : List Shape) (place : ℕ) (lines : List (ℕ × (ℕ × List ℕ))) (turns : List Turn) (ws : List (List ℕ))
    → loop_words ws ≡ None → at_words ws ≡ None → define_words ws ≡ None → shape_called shapes place ws ≡ None
    → after_opening names m shapes place lines turns ws ≡ None
by_none names m shapes place lines turns ws none neither not other =
    by_naming names m shapes place lines turns ws none neither
    ∙ ap₂ (λ (o : Option (List (List ℕ))) (s : Option Shape). after_naming names m place lines turns ws o s) not other

-- another line
drew_other : {S : Type 0} (facts : Ghosts S) (verbose : Bool) (shapes : List Shape) (lines : List (ℕ × List ℕ)) (x : ℕ × List ℕ) (s : Sketch S) (r : Reading) (new : Progress S)
    (refusal : Option ℕ) → slice_get lines r.place ≡ Some x → r.place < r.until → loop_words (text_words x.1) ≡ None
    → at_words (text_words x.1) ≡ None → define_words (text_words x.1) ≡ None → shape_called shapes r.place (text_words x.1) ≡ None
    → DrawsNext facts verbose (x) (lines_between (with_places lines) (r.place + 1) r.until) (progress_of (with_places lines) s.canvas s.names s.written r)
    refusal new
    → Advances facts verbose shapes (progress_of (with_places lines) s.canvas s.names s.written r) refusal new
drew_other facts verbose shapes lines x s r new refusal is inside other neither not undrawn drawn =
    let all : List (ℕ × (ℕ × List ℕ)) = with_places lines in
    let old = progress_of all s.canvas s.names s.written r in
    subst (λ (left : List (ℕ × (ℕ × List ℕ))). AdvancesOver facts verbose shapes left old refusal new) (sym (next_line lines r.place r.until x is inside))
    (at_other facts verbose shapes (r.place, x) (lines_between all (r.place + 1) r.until) old new refusal
    (by_none s.names (current_map (facts.maps_in s.canvas)) shapes r.place (lines_between all (r.place + 1) r.until) (turns_of all r.blocks.items) (text_words x.1)
    other neither not undrawn) drawn)

-- how another line ends
pub ended_next : {S : Type 0} (facts : Ghosts S) (verbose : Bool) (shapes : List Shape) (lines : List (ℕ × List ℕ)) (x : ℕ × List ℕ) (old new : Sketch S) (canvas : S) (r s : Reading)
    (result : Result (Option ℕ) ScriptError) → slice_get lines r.place ≡ Some x → r.place < r.until → loop_words (text_words x.1) ≡ None
    → at_words (text_words x.1) ≡ None → define_words (text_words x.1) ≡ None → shape_called shapes r.place (text_words x.1) ≡ None
    → s.place ≡ r.place + 1 → s.until ≡ r.until → s.blocks.items ≡ r.blocks.items → new.canvas ≡ canvas
    → MatchResult result (λ refusal. DrawsLine facts verbose (x) old refusal new)
    (λ e. ((e ≡ cut.OutOfMemory) ⊎ (e ≡ cut.WriterFailed))
    × (facts.settles old.canvas canvas ⊎ ((y : Sketch S) × DrawsLine facts verbose (x) old None y × (canvas ≡ y.canvas))))
    → AdvancesTo facts verbose shapes (progress_of (with_places lines) old.canvas old.names old.written r) result
    (progress_of (with_places lines) new.canvas new.names new.written s)
ended_next facts verbose shapes lines x old new canvas r s (Ok refusal) is inside other neither not undrawn place until blocks has drawn =
    let all : List (ℕ × (ℕ × List ℕ)) = with_places lines in
    drew_other facts verbose shapes lines x old r (progress_of all new.canvas new.names new.written s) refusal is inside other neither not undrawn
    (drawn, ap₂ (λ (i j : ℕ). lines_between all i j) place until, ap (turns_of all) blocks)
ended_next {S} facts verbose shapes lines x old new canvas r s (Err e) is inside other neither not undrawn place until blocks has (cause, inl settled) = (cause, inl (subst (λ (c : S). facts.settles old.canvas c) (sym has) settled))
ended_next {S} facts verbose shapes lines x old new canvas r s (Err e) is inside other neither not undrawn place until blocks has (cause, inr (y, drawn, at)) =
    let all : List (ℕ × (ℕ × List ℕ)) = with_places lines in
    let last : Progress S = record { sketch = y; lines = lines_between all (r.place + 1) r.until; turns = turns_of all r.blocks.items } in (
      cause,
      inr (last, drew_other facts verbose shapes lines x old r last None is inside other neither not undrawn (drawn, refl, refl), has ∙ at),
    )

-- ---- Many of them

-- one more
pub ComesTo-more : {S : Type 0} (facts : Ghosts S) (verbose : Bool) (shapes : List Shape) (first mid new : Progress S) (n : ℕ) → ComesTo facts verbose shapes first n mid
    → Steps facts verbose shapes mid None new → ComesTo facts verbose shapes first (n + 1) new
ComesTo-more facts verbose shapes first mid new n reached drawn =
    let more : suc n ≡ n + 1 = omega arith in
    subst (λ m. ComesTo facts verbose shapes first m new) more (mid, reached, drawn)

-- ---- All of them

-- before the first line
pub at_start : {S : Type 0} (canvas : S) (names : Names) (w : Option (List ℕ)) (lines : List (ℕ × List ℕ)) (r : Reading) → scope_of names ≡ first_scope
    → IsFirstReading (length lines) r → progress_of (with_places lines) canvas (scope_of names) w r ≡ at_first canvas w lines
at_start canvas names w lines r none first =
    let all : lines_between (with_places lines) r.place r.until ≡ with_places lines =
    ap₂ (λ (i j : ℕ). lines_between (with_places lines) i j) first.place first.until ∙ all_between lines in
    let turns : turns_of (with_places lines) r.blocks.items ≡ [] = ap (turns_of (with_places lines)) first.blocks in
    λ i. record {
      sketch = record { canvas = canvas; names = none i; written = w };
      lines = all i;
      turns = turns i;
    }

-- it is within the lines
pub start_within : (count : ℕ) (r : Reading) → count < 2 ^ 63 → IsFirstReading count r → IsWithinLines count r
start_within count r few first = record {
  few = few;
  until = omega (arith, first.until);
  blocks = subst (λ (bs : List Block). All (IsBlockWithin count) bs) (sym first.blocks) (All-nil (IsBlockWithin count));
  told = first.told ∙ sym (ap (map told_block) first.blocks);
}
