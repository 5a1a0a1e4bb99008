use Rattle.tree_pieces.proofs.Division.{divided}
use Rattle.tree_pieces.proofs.Trees.{may_divide}
use Rattle.tree_pieces.proofs.laws.parts_keep_their_piece.Goals as goal

pub returns : goal.returns
returns c = λ lines partition p all hp hq. divided lines partition p (may_divide lines all partition p hp hq)
