-- The lines so far have the keys of what they name.
use Rattle.std.proofs.Common.{◌≡◌, map, take}
use Rattle.map_tables.specs.Keyed.{line_of}
use Rattle.map_tables.proofs.map.keyed_line.keyed_lines.Given as goal

abbrev pub invariant-loop-line : goal.invariant-loop-line
invariant-loop-line l = map (line_of l.vertices.keys l.sides.keys) l.table.items ≡ take l.line-index l.lines
