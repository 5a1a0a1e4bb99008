use Rattle.std.proofs.Common.{◌≡◌, map, take}
use Rattle.tree_pieces.specs.Edges.{edge_between}
use Rattle.tree_pieces.proofs.map_lines.edges_of.Given as goal

-- the lines so far
abbrev pub invariant-loop-n : goal.invariant-loop-n
invariant-loop-n l = l.edges.items ≡ map (edge_between l.map.tables.vertices) (take l.n l.map.tables.lines)
