-- The lines so far have the numbers of what they name.
use Rattle.std.proofs.Common.{◌≡◌, map, take}
use Rattle.map_tables.specs.Keyed.{line_of}
use Rattle.map_tables.proofs.map.keyed_line.numbered_lines.Given as goal

abbrev pub invariant-loop-n : goal.invariant-loop-n
invariant-loop-n l = l.list.items ≡ map (line_of l.vertices.keys l.sides.keys) (take l.n l.lines.items)
