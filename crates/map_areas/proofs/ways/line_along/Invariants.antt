use Rattle.std.proofs.Common.{◌≡◌, drop, find}
use Rattle.map_areas.specs.Ways.{runs_along}
use Rattle.map_areas.proofs.ways.line_along.Given as goal

-- the first line is among those that are left
abbrev pub invariant-loop-line : goal.invariant-loop-line
invariant-loop-line l = find (runs_along l.way) l.lines ≡ find (runs_along l.way) (drop l.line-index l.lines)
