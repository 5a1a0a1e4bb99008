use Rattle.std.proofs.Common.{rules}
use Rattle.tree_blocks.proofs.GridLemmas.{greater_back}
use Rattle.tree_blocks.proofs.grid.greater.Goals as goal

pub returns-clause-x : goal.returns-clause-x
returns-clause-x c = greater_back c.args.a.x c.args.b.x c.max.result (search rules) (search rules) c.max.ensures.value

pub returns-clause-y : goal.returns-clause-y
returns-clause-y c = greater_back c.args.a.y c.args.b.y c.max-2.result (search rules) (search rules) c.max-2.ensures.value
