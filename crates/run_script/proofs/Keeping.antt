-- What holds of a canvas through a script, if each of its calls keeps it.
use Rattle.std.proofs.Common.{◌≡◌, ◌⊎◌, inl, inr, ℕ, ◌==◌, Bool, true, false, List, [], ◌∷◌, Option, Some, None, Result, Ok, Err, sym, ap, subst}
use Rattle.std.specs.Prelude.{MatchOption, MatchResult, zero, suc}
use Rattle.map_script.specs.Errors.{code_of}
use Rattle.map_script.specs.Lines.{let_words, line_for}
use Rattle.map_script.specs.Words.{text_words}
use Rattle.map_script.specs.declared.error.DrawError.{DrawError}
use Rattle.map_shapes.specs.Shapes.{is_shape_line}
use Rattle.map_tables.specs.Projects.{current_map}
use Rattle.map_blocks.specs.Blocks.{order_fault, with_places}
use Rattle.map_blocks.specs.Defined.{Shape, shapes_in}
use Rattle.run_script.specs.Drawn.{AdvancesOver, ComesTo, DrawsNext, EndsFrom, IsAtPlace, IsScriptDrawn, Progress, Refuses, Steps, at_first, at_position, line_limit, on_canvas, opened_by}
use Rattle.run_script.specs.Lines.{DrawsLet, DrawsOther, DrawsText, IsQueryTold, IsTried, Sketch, Stays, asks}
use Rattle.run_canvas.specs.Canvases.{OneOf}
use Rattle.run_script.specs.Orders.{IsOutOfOrder}
use Rattle.run_script.specs.Shaped.{DoesAll, DrawsShape, command_lines}
use Rattle.run_script.specs.Turns.{OpensBlock, Position}
use Rattle.run_canvas.specs.declared.canvas.Canvas.{Ghosts}
use Rattle.map_blocks.specs.declared.stop.Stop.{Stop}
use Rattle.run_canvas.specs.declared.error.ScriptError.{ScriptError}

-- each call keeps it
pub record AreKept {S : Type 0} (facts : Ghosts S) (P : S → Type 0) : Type 0 where
  pub change : (old new : S) (line : List ℕ) (outcome : Result ℕ ℕ) → P old → facts.changes old line outcome new → P new
  pub tell : (old new : S) (line : List ℕ) (refusal : Option ℕ) (u w : Option (List ℕ)) → P old → facts.tells old line refusal new u w → P new
  pub begin : (old new : S) (place : ℕ) (alone : Bool) → P old → facts.begins old place alone new → P new
  pub room : (old new : S) (lines : List (List ℕ)) (refusal : Option ℕ) → P old → facts.makes_room old lines refusal new → P new
  pub settle : (old new : S) → P old → facts.settles old new → P new
  pub lose : (old new : S) → P old → facts.loses old new → P new

module _ {S : Type 0} (facts : Ghosts S) (P : S → Type 0) (keep : AreKept facts P) where
  same_keeps : (old new : S) → P old → new ≡ old → P new
  same_keeps old new kept is = subst P (sym is) kept

  all_keeps : (ls : List (List ℕ)) (old new : S) → P old → DoesAll facts ls old new → P new
  all_keeps [] old new kept same = same_keeps old new kept same
  all_keeps (l ∷ ls) old new kept (mid, (n, changed), rest) = all_keeps ls mid new (keep.change old mid l (Ok n) kept changed) rest

  shape_keeps : (text : List ℕ) (old new : S) (outcome : Result ℕ ℕ) → P old → DrawsShape facts text old outcome new → P new
  shape_keeps text old new (Ok n) kept (commands, planned, mid, room, done) =
      all_keeps (command_lines commands) mid new (keep.room old mid (command_lines commands) None kept room) done
  shape_keeps text old new (Err code) kept (inl (whole, same)) = same_keeps old new kept same
  shape_keeps text old new (Err code) kept (inr (commands, answer, planned, inl refused)) = keep.room old new (command_lines commands) (Some code) kept refused
  shape_keeps text old new (Err code) kept (inr (commands, answer, planned, inr (start, room, (mid, front, l, back, is, does, stop)))) =
      keep.change mid new l (Err code) (all_keeps front start mid (keep.room old start (command_lines commands) None kept room) does) stop

  does_keeps : (b : Bool) (text : List ℕ) (old new : S) (outcome : Result ℕ ℕ) → P old
      → OneOf b (DrawsShape facts text old outcome new) (facts.changes old text outcome new) → P new
  does_keeps true text old new outcome kept drawn = shape_keeps text old new outcome kept drawn
  does_keeps false text old new outcome kept changed = keep.change old new text outcome kept changed

  text_keeps : (b verbose : Bool) (line : ℕ × List ℕ) (text : List ℕ) (old new : Sketch S) (refusal : Option ℕ) → P old.canvas
      → OneOf b (IsQueryTold facts text old refusal new) (IsTried facts verbose line text old refusal new) → P new.canvas
  text_keeps true verbose line text old new refusal kept (tells, names) = keep.tell old.canvas new.canvas text refusal old.written new.written kept tells
  text_keeps false verbose line text old new refusal kept (outcome, does, ends) = does_keeps (is_shape_line text) text old.canvas new.canvas outcome kept does

  other_keeps : (verbose : Bool) (line : ℕ × List ℕ) (old new : Sketch S) (refusal : Option ℕ) (r : Result (List ℕ) DrawError) → P old.canvas
      → MatchResult r (DrawsText facts verbose line old refusal new) (λ fault. (refusal ≡ Some (code_of fault)) × Stays old new) ⊎ ((refusal ≡ Some 31) × Stays old new)
      → P new.canvas
  other_keeps verbose line old new refusal r kept (inr (is, stays)) = same_keeps old.canvas new.canvas kept stays.canvas
  other_keeps verbose line old new refusal (Err fault) kept (inl (is, stays)) = same_keeps old.canvas new.canvas kept stays.canvas
  other_keeps verbose line old new refusal (Ok text) kept (inl drawn) = text_keeps (asks facts line.1 text) verbose line text old new refusal kept drawn

  line_keeps : (verbose : Bool) (line : ℕ × List ℕ) (old new : Sketch S) (refusal : Option ℕ) (o : Option (List (List ℕ))) → P old.canvas
      → MatchOption o (DrawsOther facts verbose line old refusal new) (λ words. DrawsLet facts words old refusal new) → P new.canvas
  line_keeps verbose line old new refusal (Some words) kept (gives, same, written) = same_keeps old.canvas new.canvas kept same
  line_keeps verbose line old new refusal None kept drawn =
      other_keeps verbose line old new refusal (line_for old.names (current_map (facts.maps_in old.canvas)) line.1) kept drawn

  placed_keeps : (old new : Progress S) (at : Position) → P old.sketch.canvas → new ≡ at_position old.sketch at → P new.sketch.canvas
  placed_keeps old new at kept is = same_keeps old.sketch.canvas new.sketch.canvas kept (ap (λ (p : Progress S). p.sketch.canvas) is)

  next_keeps : (verbose : Bool) (shapes : List Shape) (l : ℕ × (ℕ × List ℕ)) (ls : List (ℕ × (ℕ × List ℕ))) (old new : Progress S) (refusal : Option ℕ)
      (o : Option (Result Position DrawError)) → P old.sketch.canvas
      → MatchOption o (DrawsNext facts verbose l.1 ls old refusal new) (λ outcome. (at : Position) × OpensBlock outcome old.sketch.names refusal at × (new ≡ at_position old.sketch at))
      → P new.sketch.canvas
  next_keeps verbose shapes l ls old new refusal (Some outcome) kept (at, opens, same) = placed_keeps old new at kept same
  next_keeps verbose shapes l ls old new refusal None kept (drawn, lines, turns) =
      line_keeps verbose l.1 old.sketch new.sketch refusal (let_words (text_words l.1.1)) kept drawn

  over_keeps : (verbose : Bool) (shapes : List Shape) (lines : List (ℕ × (ℕ × List ℕ))) (old new : Progress S) (refusal : Option ℕ) → P old.sketch.canvas
      → AdvancesOver facts verbose shapes lines old refusal new → P new.sketch.canvas
  over_keeps verbose shapes [] old new refusal kept (at, ends, same) = placed_keeps old new at kept same
  over_keeps verbose shapes (l ∷ ls) old new refusal kept drawn = next_keeps verbose shapes l ls old new refusal (opened_by facts shapes l ls old) kept drawn

  step_keeps : (verbose : Bool) (shapes : List Shape) (old new : Progress S) (refusal : Option ℕ) → P old.sketch.canvas → Steps facts verbose shapes old refusal new → P new.sketch.canvas
  step_keeps verbose shapes old new refusal kept (place, at, canvas, begins, drawn) =
      over_keeps verbose shapes old.lines (on_canvas canvas old) new refusal (keep.begin old.sketch.canvas canvas place verbose kept begins) drawn

  comes_keeps : (verbose : Bool) (shapes : List Shape) (first : Progress S) (n : ℕ) (new : Progress S) → P first.sketch.canvas → ComesTo facts verbose shapes first n new → P new.sketch.canvas
  comes_keeps verbose shapes first zero new kept same = same_keeps first.sketch.canvas new.sketch.canvas kept (ap (λ (p : Progress S). p.sketch.canvas) same)
  comes_keeps verbose shapes first (suc n) new kept (mid, reached, steps) =
      step_keeps verbose shapes mid new None (comes_keeps verbose shapes first n mid kept reached) steps

  refused_keeps : (verbose : Bool) (shapes : List Shape) (limit n : ℕ) (old : Progress S) (code : ℕ) (new : Progress S) → P old.sketch.canvas
      → Refuses facts verbose shapes limit n old code new → P new.sketch.canvas
  refused_keeps verbose shapes limit n old code new kept (inl (under, steps)) = step_keeps verbose shapes old new (Some code) kept steps
  refused_keeps verbose shapes limit n old code new kept (inr (at, is, same)) = same_keeps old.sketch.canvas new.sketch.canvas kept (ap (λ (p : Progress S). p.sketch.canvas) same)

  left_keeps : (verbose : Bool) (last : Progress S) (left : S) → P last.sketch.canvas
      → (left ≡ last.sketch.canvas) ⊎ ((place : ℕ) × IsAtPlace last.lines last.turns place × (begun : S) × facts.begins last.sketch.canvas place verbose begun × facts.settles begun left) → P left
  left_keeps verbose last left kept (inl same) = same_keeps last.sketch.canvas left kept same
  left_keeps verbose last left kept (inr (place, at, begun, begins, settled)) =
      keep.settle begun left (keep.begin last.sketch.canvas begun place verbose kept begins) settled

  leaves_keeps : (left canvas : S) → P left → facts.settles left canvas ⊎ facts.loses left canvas → P canvas
  leaves_keeps left canvas kept (inl settled) = keep.settle left canvas kept settled
  leaves_keeps left canvas kept (inr lost) = keep.lose left canvas kept lost

  puts_keeps : (b : Bool) (old new : S) → P old → OneOf b (new ≡ old) (facts.settles old new) → P new
  puts_keeps true old new kept same = same_keeps old new kept same
  puts_keeps false old new kept settled = keep.settle old new kept settled

  ends_keeps : (verbose : Bool) (shapes : List Shape) (first : Progress S) (limit : ℕ) (result : Result (Option Stop) ScriptError) (canvas : S) (w : Option (List ℕ)) → P first.sketch.canvas
      → EndsFrom facts verbose shapes first limit result canvas w → P canvas
  ends_keeps verbose shapes first limit (Ok None) canvas w kept ends =
      keep.settle ends.last.sketch.canvas canvas (comes_keeps verbose shapes first ends.count ends.last kept ends.reached) ends.put
  ends_keeps verbose shapes first limit (Ok (Some stop)) canvas w kept ends =
      puts_keeps (stop.code == 31) ends.after.sketch.canvas canvas
      (refused_keeps verbose shapes limit ends.count ends.before stop.code ends.after (comes_keeps verbose shapes first ends.count ends.before kept ends.reached) ends.refused) ends.put
  ends_keeps verbose shapes first limit (Err e) canvas w kept (cause, ends) =
      leaves_keeps ends.left canvas
      (left_keeps verbose ends.last ends.left (comes_keeps verbose shapes first ends.count ends.last kept ends.reached) ends.settled) ends.leaves

  script_keeps : (verbose : Bool) (lines : List (ℕ × List ℕ)) (o : Option ℕ) (result : Result (Option Stop) ScriptError) (old : S) (u : Option (List ℕ)) (new : S) (w : Option (List ℕ)) → P old
      → MatchOption o (EndsFrom facts verbose (shapes_in (with_places lines)) (at_first old u lines) (line_limit lines) result new w) (λ place. IsOutOfOrder place result old u new w)
      → P new
  script_keeps verbose lines None result old u new w kept ends = ends_keeps verbose (shapes_in (with_places lines)) (at_first old u lines) (line_limit lines) result new w kept ends
  script_keeps verbose lines (Some place) result old u new w kept out = same_keeps old new kept out.canvas

  -- so does a drawing
  pub drawn_keeps : (verbose : Bool) (lines : List (ℕ × List ℕ)) (result : Result (Option Stop) ScriptError) (old : S) (u : Option (List ℕ)) (new : S) (w : Option (List ℕ)) → P old
      → IsScriptDrawn facts verbose lines result old u new w → P new
  drawn_keeps verbose lines result old u new w kept drawn = script_keeps verbose lines (order_fault lines) result old u new w kept drawn
