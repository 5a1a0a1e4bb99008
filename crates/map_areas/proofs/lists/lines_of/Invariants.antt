use Rattle.std.proofs.Common.{◌≡◌, take}
use Rattle.map_areas.proofs.lists.lines_of.Given as goal

-- the lines so far
abbrev pub invariant-loop-n : goal.invariant-loop-n
invariant-loop-n l = l.lines.items ≡ take l.n l.map.tables.lines
