use Rattle.std.proofs.Common.{below_more, arith}
use Rattle.std.proofs.lemmas.Int.{to_z-of_z}
use Rattle.std.specs.Int.{w16, w32}
use Rattle.tree_blocks.specs.Rows.{TouchesRow}
use Rattle.tree_blocks.proofs.columns.first_row.Goals as goal

pub returns-then-touches_row : goal.returns-then-touches_row
returns-then-touches_row c =
    let e1 = to_z-of_z w32 c.args.left c.ranges.left in
    let e2 = to_z-of_z w16 c.args.bottom c.ranges.bottom in
    let t = simp (e1, e2) at c.touches_row.ensures in
    (c.loop-row-test.true, t.0 c.if-touches_row.true)

pub loop-row-preserved : goal.loop-row-preserved
loop-row-preserved c =
    let e1 = to_z-of_z w32 c.args.left c.ranges.left in
    let e2 = to_z-of_z w16 c.args.bottom c.ranges.bottom in
    let i = simp (e1, e2) at c.loop-row.invariant in
    let t = simp (e1, e2) at c.touches_row.ensures in
    simp (e1, e2) (below_more (λ r. TouchesRow c.args.line.start c.args.line.end c.args.left c.args.bottom r → ⊥) _ i (λ u. let k = t.1 u in let f = c.if-touches_row.false in cc))

pub returns : goal.returns
returns c =
    let e1 = to_z-of_z w32 c.args.left c.ranges.left in
    let e2 = to_z-of_z w16 c.args.bottom c.ranges.bottom in
    let i = simp (e1, e2) at c.loop-row.invariant in
    let no = c.loop-row-test.false in
    λ r h. i r (omega arith)
