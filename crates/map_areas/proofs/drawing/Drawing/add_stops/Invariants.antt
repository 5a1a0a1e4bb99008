use Rattle.map_areas.specs.Drawings.{IsUnderway}
use Rattle.map_areas.proofs.drawing.Drawing.add_stops.Given as goal

-- the vertices so far are drawn
abbrev pub invariant-loop-stop : goal.invariant-loop-stop
invariant-loop-stop l = IsUnderway l.map.tables l.border l.round l.self
