use Rattle.std.proofs.Common.{◌≡◌, ◌≤◌, take, length}
use Rattle.tree_nodes.proofs.built.vertices_of.Given as goal

-- the first places
abbrev pub invariant-loop-n : goal.invariant-loop-n
invariant-loop-n l = (l.vertices.items ≡ take l.n l.points) × (l.n ≤ length l.points)
