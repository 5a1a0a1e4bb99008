use Rattle.map_areas.specs.Drawings.{IsUnderway}
use Rattle.map_areas.proofs.drawing.Drawing.cut_lines.Given as goal

-- the lines so far are cut
abbrev pub invariant-loop-line : goal.invariant-loop-line
invariant-loop-line l = IsUnderway l.map.tables l.border l.round l.self
