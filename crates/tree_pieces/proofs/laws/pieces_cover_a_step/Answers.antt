use Rattle.tree_pieces.specs.Fractions.{steps_between}
use Rattle.tree_pieces.specs.Pieces.{edge_of, first_end}
use Rattle.tree_pieces.proofs.Steps.{piece_covers}
use Rattle.tree_pieces.proofs.laws.pieces_cover_a_step.Goals as goal

pub returns : goal.returns
returns c = λ lines p h. (steps_between (edge_of lines p).v1 (first_end lines p), piece_covers lines p h)
