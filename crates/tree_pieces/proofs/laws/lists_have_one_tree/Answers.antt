use Rattle.std.proofs.Common.{arith}
use Rattle.tree_pieces.proofs.Choice.{left_over, tree_exists, one_tree}
use Rattle.tree_pieces.proofs.laws.lists_have_one_tree.Goals as goal

pub returns-clause-exists : goal.returns-clause-exists
returns-clause-exists c = λ lines ps used. tree_exists lines (left_over used) ps used (omega arith)

pub returns-clause-only : goal.returns-clause-only
returns-clause-only c = λ lines ps used t u. one_tree lines t u ps used
