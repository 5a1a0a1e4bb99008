use Rattle.std.proofs.Common.{arith}
use Rattle.std.proofs.lemmas.Int.{to_z-of_z}
use Rattle.std.specs.Int.{w16, w32}
use Rattle.tree_blocks.proofs.RowLemmas.{none_below}
use Rattle.tree_blocks.proofs.columns.least_row.Goals as goal

pub returns-then-not-touches_row-clause-least : goal.returns-then-not-touches_row-clause-least
returns-then-not-touches_row-clause-least c =
    let e1 = to_z-of_z w32 c.args.left c.ranges.left in
    let e2 = to_z-of_z w16 c.args.bottom c.ranges.bottom in
    let i = simp (e1, e2) at c.loop-low.invariant in
    let t = simp (e1, e2) at c.touches_row.ensures in
    none_below c.args.line.start c.args.line.end c.args.left c.args.bottom c.loop-low.low i.1 (λ v. let w = t.1 v in let f = c.if-not-touches_row.true in cc)

pub returns-then-not-touches_row-clause-touched : goal.returns-then-not-touches_row-clause-touched
returns-then-not-touches_row-clause-touched c =
    let i = simp (to_z-of_z w32 c.args.left c.ranges.left, to_z-of_z w16 c.args.bottom c.ranges.bottom) at c.loop-low.invariant in
    i.1

pub returns-clause-touched : goal.returns-clause-touched
returns-clause-touched c =
    let i = simp (to_z-of_z w32 c.args.left c.ranges.left, to_z-of_z w16 c.args.bottom c.ranges.bottom) at c.loop-low.invariant in
    i.1

pub loop-low-preserved : goal.loop-low-preserved
loop-low-preserved c =
    let below = c.loop-low.invariant.0 in
    (omega (arith, below), c.touches_row.ensures.0 c.if-not-touches_row.false)
