use Rattle.std.proofs.Common.{refl, arith}
use Rattle.std.proofs.lemmas.Int.{to_z-of_z}
use Rattle.std.specs.Int.{w16, w32}
use Rattle.tree_blocks.proofs.RowLemmas.{none_above}
use Rattle.tree_blocks.proofs.columns.greatest_row.Goals as goal

pub returns-then-not-touches_row-clause-greatest : goal.returns-then-not-touches_row-clause-greatest
returns-then-not-touches_row-clause-greatest c =
    let e1 = to_z-of_z w32 c.args.left c.ranges.left in
    let e2 = to_z-of_z w16 c.args.bottom c.ranges.bottom in
    let i = simp (e1, e2) at c.loop-row.invariant in
    let t = simp (e1, e2) at c.touches_row.ensures in
    let at = i.0 in
    let low = i.1 in
    λ r h k u. none_above c.args.line.start c.args.line.end c.args.left c.args.bottom c.loop-row.high c.loop-row.row c.args.rows (omega (arith, at)) i.3
    (λ v. let w = t.1 v in let f = c.if-not-touches_row.true in cc) r (omega (arith, at)) k u

pub returns-then-not-touches_row-clause-touched : goal.returns-then-not-touches_row-clause-touched
returns-then-not-touches_row-clause-touched c =
    let i = simp (to_z-of_z w32 c.args.left c.ranges.left, to_z-of_z w16 c.args.bottom c.ranges.bottom) at c.loop-row.invariant in
    i.3

pub returns-after-loop-row-clause-touched : goal.returns-after-loop-row-clause-touched
returns-after-loop-row-clause-touched c =
    let i = simp (to_z-of_z w32 c.args.left c.ranges.left, to_z-of_z w16 c.args.bottom c.ranges.bottom) at c.loop-row.invariant in
    i.3

pub loop-row-preserved : goal.loop-row-preserved
loop-row-preserved c =
    let at = c.loop-row.invariant.0 in
    let low = c.loop-row.invariant.1 in
    (refl, omega (arith, at, low), c.loop-row-test.true, c.touches_row.ensures.0 c.if-not-touches_row.false)
