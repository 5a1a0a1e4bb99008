use Rattle.std.proofs.Common.{◌≡◌, true, drop}
use Rattle.map_tables.specs.Tables.{Tables}
use Rattle.map_areas.specs.Bordered.{are_walled, is_led}
use Rattle.map_areas.specs.Drawings.{IsUnderway, IsOnBorder, KeepsWalls}
use Rattle.map_areas.proofs.drawing.Drawing.draw_edge.Given as goal

-- what is left of the edge decides, as long as the walls so far stay
abbrev pub invariant-loop-place : goal.invariant-loop-place
invariant-loop-place l = record {
  drawn : IsUnderway l.map.tables l.border l.paint.round l.self;
  at : IsOnBorder l.border.edges.items l.at;
  led : is_led l.map.tables l.paint.round l.cut.edge l.at (drop l.place-index l.cut.cuts.items) ≡ true;
  kept : KeepsWalls l.map.tables l.paint.sector l.initial.self.map.tables l.self.map.tables;
  walled : (u : Tables) → KeepsWalls l.map.tables l.paint.sector l.self.map.tables u
      → are_walled l.map.tables u l.paint.sector l.cut.edge l.at (drop l.place-index l.cut.cuts.items) ≡ true
      → are_walled l.map.tables u l.paint.sector l.cut.edge l.cut.edge.from l.cut.cuts.items ≡ true;
}
