use Rattle.std.proofs.Common.{◌≡◌, take}
use Rattle.tree_pieces.proofs.numbered.Points.over.Given as goal

-- the vertices so far, in their order
abbrev pub invariant-loop-place : goal.invariant-loop-place
invariant-loop-place l = l.points ≡ take l.place-index l.places
