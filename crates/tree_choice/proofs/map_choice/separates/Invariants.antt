use Rattle.std.proofs.Common.{◌≡◌, drop}
use Rattle.tree_pieces.specs.Edges.{edges_of}
use Rattle.tree_pieces.specs.Division.{left_parts}
use Rattle.tree_choice.proofs.map_choice.separates.Given as goal

-- the pieces before this one leave nothing on the left
abbrev pub invariant-loop-piece : goal.invariant-loop-piece
invariant-loop-piece l = left_parts (edges_of l.map.tables) l.partition (drop l.piece-index l.pieces) ≡ left_parts (edges_of l.map.tables) l.partition l.pieces
