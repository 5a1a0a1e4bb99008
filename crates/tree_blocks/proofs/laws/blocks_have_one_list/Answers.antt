use Rattle.tree_blocks.proofs.SizeLemmas.{one_list, one_lists}
use Rattle.tree_blocks.proofs.laws.blocks_have_one_list.Goals as goal

pub returns-clause-one : goal.returns-clause-one
returns-clause-one c = one_list

pub returns-clause-all : goal.returns-clause-all
returns-clause-all c = one_lists
