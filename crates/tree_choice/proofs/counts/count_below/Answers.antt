use Rattle.std.proofs.Common.{◌+◌, arith}
use Rattle.std.proofs.lemmas.List.{length-drop, drop_all}
use Rattle.tree_pieces.proofs.Stops.{cost_at_least}
use Rattle.tree_choice.proofs.OneMore.{Stepped, piece_counts, stepped, counted_all}
use Rattle.tree_choice.proofs.counts.count_below.Goals as goal
use Rattle.tree_choice.proofs.counts.count_below.Goals.{After-plus-counts}

step : (c : After-plus-counts) → Stepped c.args.lines.now c.args.partition.now c.args.pieces.now c.loop-n.n c.plus-counts.result
step c =
    let i = c.loop-n.invariant in
    let o = c.of_parts.ensures in
    let one = piece_counts c.args.lines.now c.args.partition.now _ c.divide_in-parts.result c.of_parts.result c.divide_in-parts.ensures.exact o.right o.left o.splits in
    let e = c.plus-counts.ensures in
    stepped c.args.lines.now c.args.partition.now c.args.pieces.now _ c.loop-n.n c.loop-n.counts c.of_parts.result c.plus-counts.result c.loop-n-test.true i.counted i.right i.left i.splits one e.right e.left e.splits

pub returns-then-limit-least_cost : goal.returns-then-limit-least_cost
returns-then-limit-least_cost c =
    let s = step (goal.at.returns-then-limit-least_cost c).After-plus-counts in
    let k = cost_at_least _ _ _ _ _ _ _ s.counted in
    let l = length-drop (c.loop-n.n + 1) c.args.pieces.now in
    omega arith

pub loop-n-preserved : goal.loop-n-preserved
loop-n-preserved c =
    let s = step (goal.at.loop-n-preserved c).After-plus-counts in
    record { counted = s.counted; right = s.right; left = s.left; splits = s.splits }

pub returns : goal.returns
returns c =
    let i = c.loop-n.invariant in
    let a = counted_all _ _ _ _ _ _ _ (drop_all c.loop-n.n c.args.pieces.now c.loop-n-test.false) i.counted in
    record { splits = a.0; right = a.1; left = a.2 }
