use Rattle.map_areas.specs.Drawings.{IsUnderway, KeepsWalls}
use Rattle.map_areas.proofs.drawing.Drawing.turn_inside.Given as goal

-- the lines so far
abbrev pub invariant-loop-line : goal.invariant-loop-line
invariant-loop-line l = record {
  drawn : IsUnderway l.map.tables l.border l.paint.round l.self;
  kept : KeepsWalls l.map.tables l.paint.sector l.initial.self.map.tables l.self.map.tables;
}
