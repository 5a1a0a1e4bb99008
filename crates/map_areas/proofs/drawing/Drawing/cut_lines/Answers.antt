use Rattle.std.proofs.Common.{All, List, false, slice_index_or, sym, subst}
use Rattle.std.specs.Prelude.{pos}
use Rattle.lump_records.specs.declared.records.Vertex.{Vertex}
use Rattle.map_plane.specs.declared.places.PlacedLine.{PlacedLine}
use Rattle.map_areas.specs.Cuts.{AreCutsOf}
use Rattle.map_areas.specs.Drawings.{IsOnBorder}
use Rattle.map_areas.proofs.OnBorder.{cuts_on}
use Rattle.map_areas.proofs.drawing.Drawing.cut_lines.Goals as goal

abbrev some_line : PlacedLine
some_line = record { number = 0; from = record { x = pos 0; y = pos 0 }; to = record { x = pos 0; y = pos 0 }; is_wall = false }

pub cut_if_taken-requires-clause-places : goal.cut_if_taken-requires-clause-places
cut_if_taken-requires-clause-places c =
    let l = slice_index_or c.deref-line-items.result.now c.loop-line.line-index some_line in
    let es = c.args.border.now.edges.items in
    subst (All (IsOnBorder es)) (sym c.deref-in-loop-line.ensures.value)
    (cuts_on es l c.args.border.now.stops.items c.in_ok-cuts.cuts.items
    (subst (λ (ps : List Vertex). AreCutsOf l ps c.in_ok-cuts.cuts.items) c.deref.ensures.value c.in_ok-cuts.ensures) c.requires.stops)
