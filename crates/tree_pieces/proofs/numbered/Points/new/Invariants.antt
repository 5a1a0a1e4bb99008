use Rattle.std.proofs.Common.{◌≡◌, take}
use Rattle.tree_pieces.proofs.numbered.Points.new.Given as goal

-- the vertices so far, in their order
abbrev pub invariant-loop-n : goal.invariant-loop-n
invariant-loop-n l = l.points ≡ take l.n l.map.tables.vertices
