use Rattle.std.proofs.Common.{arith}
use Rattle.tree_choice.proofs.ClearLemmas.{dear_by_clear}
use Rattle.tree_choice.proofs.walk.count_list.Goals as goal

pub returns-then-limit-least_cost : goal.returns-then-limit-least_cost
returns-then-limit-least_cost c =
    let e = c.least_cost.ensures in
    let t = c.if-limit-least_cost.true in
    dear_by_clear c.args.by.now.lines.now c.args.by.now.piece.now c.args.list.now.pieces.now _ c.count_clear_ones-clear.result c.args.limit c.count_clear_ones-clear.ensures (omega arith)
