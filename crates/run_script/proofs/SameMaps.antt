-- A drawing onto maps that keep the origins of their items is one onto the maps alone.
use Rattle.std.proofs.Common.{◌≡◌, ◌⊎◌, inl, inr, ℕ, ◌==◌, Bool, true, false, List, [], ◌∷◌, Option, Some, None, Result, Ok, Err, ap}
use Rattle.std.specs.Prelude.{MatchOption, MatchResult, zero, suc}
use Rattle.map_script.specs.Errors.{code_of}
use Rattle.map_script.specs.Lines.{let_words, line_for}
use Rattle.map_script.specs.Words.{text_words}
use Rattle.map_script.specs.declared.error.DrawError.{DrawError}
use Rattle.map_shapes.specs.Shapes.{is_shape_line}
use Rattle.map_tables.specs.Projects.{ProjectMaps, current_map}
use Rattle.map_blocks.specs.Blocks.{order_fault, with_places}
use Rattle.map_blocks.specs.Defined.{Shape, shapes_in}
use Rattle.map_blocks.specs.declared.stop.Stop.{Stop}
use Rattle.run_canvas.specs.Canvases.{Drafted, OneOf, draft_canvas}
use Rattle.run_canvas.specs.Origins.{OriginMaps, origin_canvas}
use Rattle.run_canvas.specs.declared.error.ScriptError.{ScriptError}
use Rattle.run_script.specs.Drawn.{AdvancesOver, ComesTo, DrawsNext, EndsFrom, IsAtPlace, IsScriptDrawn, Progress, Refuses, Steps, at_first, at_position, line_limit, on_canvas, opened_by}
use Rattle.run_script.specs.Lines.{DrawsLet, DrawsOther, DrawsText, EndsChange, IsQueryTold, IsTried, Sketch, Stays, asks, sketch_of}
use Rattle.run_script.specs.Orders.{IsOutOfOrder}
use Rattle.run_script.specs.Shaped.{DoesAll, DrawsShape, command_lines}
use Rattle.run_script.specs.Turns.{OpensBlock, Position}

abbrev maps_of : OriginMaps → Drafted
maps_of d = d.draft

abbrev sketch_alone : Sketch OriginMaps → Sketch Drafted
sketch_alone s = sketch_of s.canvas.draft s.names s.written

abbrev alone : Progress OriginMaps → Progress Drafted
alone p = record { sketch = sketch_alone p.sketch; lines = p.lines; turns = p.turns }

all_same : (ls : List (List ℕ)) (old new : OriginMaps) → DoesAll origin_canvas ls old new → DoesAll draft_canvas ls old.draft new.draft
all_same [] old new same = ap maps_of same
all_same (l ∷ ls) old new (mid, (n, changed), rest) = (mid.draft, (n, changed.0), all_same ls mid new rest)

shape_same : (text : List ℕ) (old new : OriginMaps) (outcome : Result ℕ ℕ) → DrawsShape origin_canvas text old outcome new → DrawsShape draft_canvas text old.draft outcome new.draft
shape_same text old new (Ok n) (commands, planned, mid, room, done) =
    (commands, planned, mid.draft, (room.0, ap maps_of room.1), all_same (command_lines commands) mid new done)
shape_same text old new (Err code) (inl (whole, same)) = inl (whole, ap maps_of same)
shape_same text old new (Err code) (inr (commands, answer, planned, inl refused)) =
    inr (commands, answer, planned, inl (refused.0, ap maps_of refused.1))
shape_same text old new (Err code) (inr (commands, answer, planned, inr (start, room, (mid, front, l, back, is, does, stop)))) =
    inr (commands, answer, planned, inr (start.draft, (room.0, ap maps_of room.1), (mid.draft, front, l, back, is, all_same front start mid does, stop.0)))

does_same : (b : Bool) (text : List ℕ) (old new : OriginMaps) (outcome : Result ℕ ℕ) → OneOf b (DrawsShape origin_canvas text old outcome new) (origin_canvas.changes old text outcome new)
    → OneOf b (DrawsShape draft_canvas text old.draft outcome new.draft) (draft_canvas.changes old.draft text outcome new.draft)
does_same true text old new outcome drawn = shape_same text old new outcome drawn
does_same false text old new outcome changed = changed.0

ends_same : (verbose : Bool) (line : ℕ × List ℕ) (text : List ℕ) (p q : ProjectMaps) (outcome : Result ℕ ℕ) (old new : Sketch OriginMaps) (refusal : Option ℕ)
    → EndsChange verbose line text p q outcome old refusal new → EndsChange verbose line text p q outcome (sketch_alone old) refusal (sketch_alone new)
ends_same verbose line text p q (Ok n) old new refusal ends = ends
ends_same verbose line text p q (Err code) old new refusal ends = ends

stays_same : (old new : Sketch OriginMaps) → Stays old new → Stays (sketch_alone old) (sketch_alone new)
stays_same old new stays = record { canvas = ap maps_of stays.canvas; names = stays.names; written = stays.written }

text_same : (b verbose : Bool) (line : ℕ × List ℕ) (text : List ℕ) (old new : Sketch OriginMaps) (refusal : Option ℕ)
    → OneOf b (IsQueryTold origin_canvas text old refusal new) (IsTried origin_canvas verbose line text old refusal new)
    → OneOf b (IsQueryTold draft_canvas text (sketch_alone old) refusal (sketch_alone new)) (IsTried draft_canvas verbose line text (sketch_alone old) refusal (sketch_alone new))
text_same true verbose line text old new refusal ((same, told), names) = ((ap maps_of same, told), names)
text_same false verbose line text old new refusal (outcome, does, ends) =
    (outcome, does_same (is_shape_line text) text old.canvas new.canvas outcome does, ends_same verbose line text old.canvas.draft.maps new.canvas.draft.maps outcome old new refusal ends)

other_same : (verbose : Bool) (line : ℕ × List ℕ) (old new : Sketch OriginMaps) (refusal : Option ℕ) (r : Result (List ℕ) DrawError)
    → MatchResult r (DrawsText origin_canvas verbose line old refusal new) (λ fault. (refusal ≡ Some (code_of fault)) × Stays old new) ⊎ ((refusal ≡ Some 31) × Stays old new)
    → MatchResult r (DrawsText draft_canvas verbose line (sketch_alone old) refusal (sketch_alone new))
    (λ fault. (refusal ≡ Some (code_of fault)) × Stays (sketch_alone old) (sketch_alone new)) ⊎ ((refusal ≡ Some 31) × Stays (sketch_alone old) (sketch_alone new))
other_same verbose line old new refusal r (inr (is, stays)) = inr (is, stays_same old new stays)
other_same verbose line old new refusal (Err fault) (inl (is, stays)) = inl (is, stays_same old new stays)
other_same verbose line old new refusal (Ok text) (inl drawn) = inl (text_same (asks origin_canvas line.1 text) verbose line text old new refusal drawn)

line_same : (verbose : Bool) (line : ℕ × List ℕ) (old new : Sketch OriginMaps) (refusal : Option ℕ) (o : Option (List (List ℕ)))
    → MatchOption o (DrawsOther origin_canvas verbose line old refusal new) (λ words. DrawsLet origin_canvas words old refusal new)
    → MatchOption o (DrawsOther draft_canvas verbose line (sketch_alone old) refusal (sketch_alone new)) (λ words. DrawsLet draft_canvas words (sketch_alone old) refusal (sketch_alone new))
line_same verbose line old new refusal (Some words) (gives, same, written) = (gives, ap maps_of same, written)
line_same verbose line old new refusal None drawn = other_same verbose line old new refusal (line_for old.names (current_map old.canvas.draft.maps) line.1) drawn

next_same : (verbose : Bool) (l : ℕ × (ℕ × List ℕ)) (ls : List (ℕ × (ℕ × List ℕ))) (old new : Progress OriginMaps) (refusal : Option ℕ) (o : Option (Result Position DrawError))
    → MatchOption o (DrawsNext origin_canvas verbose l.1 ls old refusal new) (λ outcome. (at : Position) × OpensBlock outcome old.sketch.names refusal at × (new ≡ at_position old.sketch at))
    → MatchOption o (DrawsNext draft_canvas verbose l.1 ls (alone old) refusal (alone new))
    (λ outcome. (at : Position) × OpensBlock outcome old.sketch.names refusal at × (alone new ≡ at_position (sketch_alone old.sketch) at))
next_same verbose l ls old new refusal (Some outcome) (at, opens, same) = (at, opens, ap alone same)
next_same verbose l ls old new refusal None (drawn, lines, turns) = (line_same verbose l.1 old.sketch new.sketch refusal (let_words (text_words l.1.1)) drawn, lines, turns)

over_same : (verbose : Bool) (shapes : List Shape) (lines : List (ℕ × (ℕ × List ℕ))) (old new : Progress OriginMaps) (refusal : Option ℕ)
    → AdvancesOver origin_canvas verbose shapes lines old refusal new → AdvancesOver draft_canvas verbose shapes lines (alone old) refusal (alone new)
over_same verbose shapes [] old new refusal (at, ends, same) = (at, ends, ap alone same)
over_same verbose shapes (l ∷ ls) old new refusal drawn = next_same verbose l ls old new refusal (opened_by origin_canvas shapes l ls old) drawn

step_same : (verbose : Bool) (shapes : List Shape) (old new : Progress OriginMaps) (refusal : Option ℕ) → Steps origin_canvas verbose shapes old refusal new
    → Steps draft_canvas verbose shapes (alone old) refusal (alone new)
step_same verbose shapes old new refusal (place, at, canvas, begins, drawn) =
    (place, at, canvas.draft, ap maps_of begins, over_same verbose shapes old.lines (on_canvas canvas old) new refusal drawn)

comes_same : (verbose : Bool) (shapes : List Shape) (first : Progress OriginMaps) (n : ℕ) (new : Progress OriginMaps) → ComesTo origin_canvas verbose shapes first n new
    → ComesTo draft_canvas verbose shapes (alone first) n (alone new)
comes_same verbose shapes first zero new same = ap alone same
comes_same verbose shapes first (suc n) new (mid, reached, steps) = (alone mid, comes_same verbose shapes first n mid reached, step_same verbose shapes mid new None steps)

refused_same : (verbose : Bool) (shapes : List Shape) (limit n : ℕ) (old : Progress OriginMaps) (code : ℕ) (new : Progress OriginMaps) → Refuses origin_canvas verbose shapes limit n old code new
    → Refuses draft_canvas verbose shapes limit n (alone old) code (alone new)
refused_same verbose shapes limit n old code new (inl (under, steps)) = inl (under, step_same verbose shapes old new (Some code) steps)
refused_same verbose shapes limit n old code new (inr (at, is, same)) = inr (at, is, ap alone same)

left_same : (verbose : Bool) (last : Progress OriginMaps) (left : OriginMaps)
    → (left ≡ last.sketch.canvas) ⊎ ((place : ℕ) × IsAtPlace last.lines last.turns place × (begun : OriginMaps) × origin_canvas.begins last.sketch.canvas place verbose begun × (left ≡ begun))
    → (left.draft ≡ last.sketch.canvas.draft) ⊎ ((place : ℕ) × IsAtPlace last.lines last.turns place × (begun : Drafted) × draft_canvas.begins last.sketch.canvas.draft place verbose begun
    × (left.draft ≡ begun))
left_same verbose last left (inl same) = inl (ap maps_of same)
left_same verbose last left (inr (place, at, begun, begins, settled)) = inr (place, at, begun.draft, ap maps_of begins, ap maps_of settled)

leaves_same : (left canvas : OriginMaps) → (canvas ≡ left) ⊎ ⊥ → (canvas.draft ≡ left.draft) ⊎ ⊥
leaves_same left canvas (inl settled) = inl (ap maps_of settled)
leaves_same left canvas (inr lost) = inr lost

puts_same : (b : Bool) (old new : OriginMaps) → OneOf b (new ≡ old) (new ≡ old) → OneOf b (new.draft ≡ old.draft) (new.draft ≡ old.draft)
puts_same true old new same = ap maps_of same
puts_same false old new same = ap maps_of same

ended_same : (verbose : Bool) (shapes : List Shape) (first : Progress OriginMaps) (limit : ℕ) (result : Result (Option Stop) ScriptError) (canvas : OriginMaps) (w : Option (List ℕ))
    → EndsFrom origin_canvas verbose shapes first limit result canvas w → EndsFrom draft_canvas verbose shapes (alone first) limit result canvas.draft w
ended_same verbose shapes first limit (Ok None) canvas w ends = record {
  count = ends.count;
  last = alone ends.last;
  within = ends.within;
  reached = comes_same verbose shapes first ends.count ends.last ends.reached;
  over = ends.over;
  put = ap maps_of ends.put;
  has = ends.has;
}
ended_same verbose shapes first limit (Ok (Some stop)) canvas w ends = record {
  count = ends.count;
  before = alone ends.before;
  after = alone ends.after;
  reached = comes_same verbose shapes first ends.count ends.before ends.reached;
  at_place = ends.at_place;
  refused = refused_same verbose shapes limit ends.count ends.before stop.code ends.after ends.refused;
  blocks = ends.blocks;
  put = puts_same (stop.code == 31) ends.after.sketch.canvas canvas ends.put;
  has = ends.has;
}
ended_same verbose shapes first limit (Err e) canvas w (cause, ends) = (
  cause,
  record {
    count = ends.count;
    last = alone ends.last;
    reached = comes_same verbose shapes first ends.count ends.last ends.reached;
    left = ends.left.draft;
    settled = left_same verbose ends.last ends.left ends.settled;
    leaves = leaves_same ends.left canvas ends.leaves;
  },
)

script_same : (verbose : Bool) (lines : List (ℕ × List ℕ)) (o : Option ℕ) (result : Result (Option Stop) ScriptError) (old : OriginMaps) (u : Option (List ℕ)) (new : OriginMaps) (w : Option (List ℕ))
    → MatchOption o (EndsFrom origin_canvas verbose (shapes_in (with_places lines)) (at_first old u lines) (line_limit lines) result new w) (λ place. IsOutOfOrder place result old u new w)
    → MatchOption o (EndsFrom draft_canvas verbose (shapes_in (with_places lines)) (at_first old.draft u lines) (line_limit lines) result new.draft w)
    (λ place. IsOutOfOrder place result old.draft u new.draft w)
script_same verbose lines None result old u new w ends = ended_same verbose (shapes_in (with_places lines)) (at_first old u lines) (line_limit lines) result new w ends
script_same verbose lines (Some place) result old u new w out = record { refused = out.refused; canvas = ap maps_of out.canvas; written = out.written }

-- so is a drawing
pub drawn_same : (verbose : Bool) (lines : List (ℕ × List ℕ)) (result : Result (Option Stop) ScriptError) (old : OriginMaps) (u : Option (List ℕ)) (new : OriginMaps) (w : Option (List ℕ))
    → IsScriptDrawn origin_canvas verbose lines result old u new w → IsScriptDrawn draft_canvas verbose lines result old.draft u new.draft w
drawn_same verbose lines result old u new w drawn = script_same verbose lines (order_fault lines) result old u new w drawn
