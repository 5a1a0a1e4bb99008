use Rattle.std.proofs.Common.{List, sym, ap, ◌∙◌}
use Rattle.std.specs.List.{list_any, slice_get}
use Rattle.lump_records.specs.declared.records.Vertex.{Vertex}
use Rattle.map_plane.specs.Meeting.{is_at}
use Rattle.map_plane.specs.declared.places.PlacedLine.{PlacedLine}
use Rattle.map_areas.specs.Cuts.{holds_part}
use Rattle.map_areas.proofs.InParts.{tried, untried}
use Rattle.map_areas.proofs.inside.is_part_inside.Goals as goal

pub returns-in_default : goal.returns-in_default
returns-in_default c =
    untried c.args.map.now.tables c.args.border.now.edges.items c.args.border.now.doubled.items c.args.number
    (ap (λ (ls : List PlacedLine). slice_get ls c.args.number) (sym c.requires.lines) ∙ sym c.in_default.ensures)

pub returns : goal.returns
returns c =
    let l = c.in-Some.line in
    let ds = c.args.border.now.doubled.items in
    tried c.args.map.now.tables c.args.border.now.edges.items ds c.args.number l
    (ap (λ (ls : List PlacedLine). slice_get ls c.args.number) (sym c.requires.lines) ∙ sym c.in-Some.ensures)
    c.deref.result.now c.in_ok-cuts.cuts.items c.in_ok-cuts.ensures
    (λ p. ap (list_any (is_at p)) c.deref.ensures.value ∙ c.requires.stops p)
    c.holds_a_part.result (c.holds_a_part.ensures ∙ ap (λ (vs : List Vertex). holds_part ds l l.from vs) c.deref-2.ensures.value)
