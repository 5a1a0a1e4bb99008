use Rattle.std.proofs.Common.{◌≡◌, ℕ, All, Global, List, Option, Vec, ◌∙◌, ap, length, refl, subst, sym, true}
use Rattle.std.specs.List.{list_any}
use Rattle.lump_records.specs.declared.records.Vertex.{Vertex}
use Rattle.map_plane.specs.Meeting.{is_at}
use Rattle.map_areas.specs.Inside.{is_border_stop}
use Rattle.map_commands.specs.Step.{InRange}
use Rattle.map_commands.specs.declared.command.Command.{Command}
use Rattle.map_plane.specs.declared.places.PlacedLine.{PlacedLine}
use Rattle.map_plane.specs.Places.{placed_lines}
use Rattle.map_tables.specs.Tables.{Tables}
use Rattle.map_areas.specs.Apart.{doubled}
use Rattle.map_areas.specs.Cuts.{IsLed, uncut}
use Rattle.map_areas.specs.Areas.{DrawsArea}
use Rattle.map_areas.specs.Drawings.{IsCutOnBorder, IsOnBorder}
use Rattle.map_areas.specs.Drawn.{RefusesDrawing, drawn}
use Rattle.map_areas.specs.Outlines.{edges_round}
use Rattle.map_tables.specs.Ranges.{IsVertex}
use Rattle.map_areas.specs.Errors.{IsOfMap}
use Rattle.map_areas.specs.Order.{ComesAfterSectors, ComesInOrder, MayBecome}
use Rattle.map_areas.specs.Refusals.{CrossWhole, LiesInVoid}
use Rattle.map_areas.specs.declared.border.CutEdge.{CutEdge}
use Rattle.map_areas.proofs.Bordering.{covered_all}
use Rattle.map_areas.proofs.InOrder.{crossing_in_order, crossing_of_map, drawing_in_order, passed_on, round_in_order, round_of_map}
use Rattle.map_areas.proofs.Led.{not_several}
use Rattle.map_areas.proofs.OnBorder.{AreEndsInRange, edges_on, round_in_range, stops_on}
use Rattle.map_areas.proofs.Parts.{in_parts}
use Rattle.map_areas.proofs.Sofar.{drawing_keeps}
use Rattle.map_areas.proofs.Whole.{bordered_drawn, stays_drawn}
use Rattle.map_areas.proofs.area.commands_within.Goals as goal

-- what is known once the border is followed
becomes : (m : Tables) (round : Option ℕ) (cs : List CutEdge) (fs ds es : List PlacedLine) → fs ≡ es → ds ≡ doubled es → CrossWhole (placed_lines m) es → uncut cs ≡ es
    → All (IsLed m round) cs → ((n : ℕ) → LiesInVoid m fs ds n → ⊥) → MayBecome m es
becomes m round cs fs ds es same twice whole edges led empty = record {
  border = record { whole = whole; sectors = not_several m round cs es edges led };
  empty = λ n h. empty n (subst (λ (ls : List PlacedLine). LiesInVoid m ls ds n) (sym same) (subst (λ (gs : List PlacedLine). LiesInVoid m es gs n) (sym twice) h));
}

pub returns-clause-becomes : goal.returns-clause-becomes
returns-clause-becomes c =
    let border = c.in_ok-border.border in
    becomes c.args.map.now.tables c.in_ok-round.round border.cut_edges.items border.edges.items border.doubled.items c.args.edges.items c.in_ok-border.ensures.edges
    c.in_ok-border.ensures.doubled c.in_ok-border.ensures.whole c.in_ok-border.ensures.cut_edges c.in_ok-round.ensures.led c.in_ok-round.ensures.empty

-- the edges are those of corners in range
ends : (es : List PlacedLine) (cs : List Vertex) → es ≡ edges_round true cs → All IsVertex cs → All AreEndsInRange es
ends es cs same h = subst (All AreEndsInRange) (sym same) (round_in_range cs h)

pub draw-requires-clause-stops : goal.draw-requires-clause-stops
draw-requires-clause-stops c =
    let m = c.args.map.now.tables in
    let border = c.in_ok-border.border in
    let es = c.args.edges.items in
    subst (λ (ls : List PlacedLine). All (IsOnBorder ls) border.stops.items) (sym c.in_ok-border.ensures.edges)
    (stops_on m es border.stops.items (ends es c.args.area.now.corners.items c.requires.round c.requires.in_range.corners) c.in_ok-border.ensures.stops)

pub draw-requires-clause-edges : goal.draw-requires-clause-edges
draw-requires-clause-edges c =
    let m = c.args.map.now.tables in
    let border = c.in_ok-border.border in
    let es = c.args.edges.items in
    subst (λ (ls : List PlacedLine). All (IsCutOnBorder ls) border.cut_edges.items) (sym c.in_ok-border.ensures.edges)
    (edges_on m c.in_ok-round.round border.cut_edges.items es c.in_ok-border.ensures.cut_edges
    (ends es c.args.area.now.corners.items c.requires.round c.requires.in_range.corners) c.in_ok-round.ensures.led)

pub returns-clause-range : goal.returns-clause-range
returns-clause-range c =
    subst (λ (v : Vec Command Global). All InRange v.items) (sym c.into_commands.ensures) (λ k d lt. (c.in_ok-drawing.ensures.drawn.led.drawing k d lt).range)

pub returns-clause-area : goal.returns-clause-area
returns-clause-area c =
    let m = c.args.map.now.tables in
    let drawing = c.in_ok-drawing.drawing in
    let done = c.in_ok-drawing.ensures.drawn in
    let new = drawing.map.tables in
    let cs = drawing.commands.items in
    let es = c.args.edges.items in
    let round = c.in_ok-round.round in
    let border = c.in_ok-border.border in
    let edges = c.in_ok-border.ensures.edges in
    let number = c.count-sectors.ensures.number in
    let twice : border.doubled.items ≡ doubled border.edges.items =
    c.in_ok-border.ensures.doubled ∙ ap (λ (ls : List PlacedLine). doubled ls) (sym edges) in
    subst (λ (v : Vec Command Global). DrawsArea es m (drawn m v.items)) (sym c.into_commands.ensures)
    (record {
      round = round;
      stays =
          stays_drawn m new cs es border.edges.items border.doubled.items round (length m.sectors) done.led.led edges twice refl
          (drawing_keeps m border drawing done.led) done.becoming.sides (λ n l is. let y = done.becoming.lines n l is in (y.0, y.1, y.2.line))
          (in_parts m new done.becoming.parts) done.becoming.alone;
      border =
          bordered_drawn m new cs es border.edges.items round c.count-sectors.result done.led.led edges number
          (covered_all m new round c.count-sectors.result border.cut_edges.items border.edges.items (c.in_ok-border.ensures.cut_edges ∙ sym edges)
          c.in_ok-round.ensures.led c.in_ok-drawing.ensures.walled);
    })

pub find_round-requires-clause-stops : goal.find_round-requires-clause-stops
find_round-requires-clause-stops c =
    let m = c.args.map.now.tables in
    let border = c.in_ok-border.border in
    subst (λ (ls : List PlacedLine). (p : Vertex) → list_any (is_at p) border.stops.items ≡ is_border_stop m ls p) (sym c.in_ok-border.ensures.edges)
    c.in_ok-border.ensures.stops

pub returns-in_err-border-clause-refused : goal.returns-in_err-border-clause-refused
returns-in_err-border-clause-refused c =
    let e = c.in_err-border.field-0.0 in
    passed_on IsOfMap c.from_residual-in_err-border.result e c.from_residual-in_err-border.ensures.1
    (crossing_of_map e c.in_err-border.ensures.refused)

pub returns-in_err-border-clause-order : goal.returns-in_err-border-clause-order
returns-in_err-border-clause-order c =
    let m = c.args.map.now.tables in
    let es = c.args.edges.items in
    let e = c.in_err-border.field-0.0 in
    passed_on (ComesInOrder m es) c.from_residual-in_err-border.result e c.from_residual-in_err-border.ensures.1
    (crossing_in_order m es e c.in_err-border.ensures.refused)

pub returns-in_err-round-clause-refused : goal.returns-in_err-round-clause-refused
returns-in_err-round-clause-refused c =
    let e = c.in_err-round.field-0.0 in
    passed_on IsOfMap c.from_residual-in_err-round.result e c.from_residual-in_err-round.ensures.1
    (round_of_map e c.in_err-round.ensures.refused)

pub returns-in_err-round-clause-order : goal.returns-in_err-round-clause-order
returns-in_err-round-clause-order c =
    let m = c.args.map.now.tables in
    let es = c.args.edges.items in
    let e = c.in_err-round.field-0.0 in
    passed_on (ComesInOrder m es) c.from_residual-in_err-round.result e c.from_residual-in_err-round.ensures.1
    (round_in_order m es e c.in_err-round.ensures.refused c.in_ok-border.ensures.whole
    (subst (λ (ls : List PlacedLine). ComesAfterSectors m ls e) c.in_ok-border.ensures.edges c.in_err-round.ensures.order))

pub returns-in_err-drawing-clause-order : goal.returns-in_err-drawing-clause-order
returns-in_err-drawing-clause-order c =
    let m = c.args.map.now.tables in
    let es = c.args.edges.items in
    let e = c.in_err-drawing.field-0.0 in
    let border = c.in_ok-border.border in
    passed_on (ComesInOrder m es) c.from_residual-in_err-drawing.result e c.from_residual-in_err-drawing.ensures.1
    (drawing_in_order m es e
    (subst (λ (ls : List PlacedLine). RefusesDrawing m ls e) c.in_ok-border.ensures.edges c.in_err-drawing.ensures.refused)
    (becomes m c.in_ok-round.round border.cut_edges.items border.edges.items border.doubled.items es c.in_ok-border.ensures.edges c.in_ok-border.ensures.doubled
    c.in_ok-border.ensures.whole c.in_ok-border.ensures.cut_edges c.in_ok-round.ensures.led c.in_ok-round.ensures.empty))
