use Rattle.std.proofs.Common.{rules}
use Rattle.tree_blocks.proofs.GridLemmas.{lesser_back}
use Rattle.tree_blocks.proofs.grid.lesser.Goals as goal

pub returns-clause-x : goal.returns-clause-x
returns-clause-x c = lesser_back c.args.a.x c.args.b.x c.min.result (search rules) (search rules) c.min.ensures.value

pub returns-clause-y : goal.returns-clause-y
returns-clause-y c = lesser_back c.args.a.y c.args.b.y c.min-2.result (search rules) (search rules) c.min-2.ensures.value
