use Rattle.std.proofs.Common.{◌≡◌, map, take}
use Rattle.map_areas.specs.Apart.{doubled_line}
use Rattle.map_areas.proofs.border.twice.Given as goal

-- the lines so far
abbrev pub invariant-loop-line : goal.invariant-loop-line
invariant-loop-line l = l.doubled.items ≡ map doubled_line (take l.line-index l.lines)
