use Rattle.std.proofs.lemmas.Int.{to_z-of_z}
use Rattle.std.specs.Int.{w16, w32}
use Rattle.tree_blocks.proofs.columns.some_row.Goals as goal

pub returns-then-touches_row : goal.returns-then-touches_row
returns-then-touches_row c =
    let e1 = to_z-of_z w32 c.args.left c.ranges.left in
    let e2 = to_z-of_z w16 c.args.bottom c.ranges.bottom in
    let t = simp (e1, e2) at c.touches_row.ensures in
    (c.if-near-rows.true, t.0 c.if-touches_row.true)

pub returns : goal.returns
returns c =
    let e1 = to_z-of_z w32 c.args.left c.ranges.left in
    let e2 = to_z-of_z w16 c.args.bottom c.ranges.bottom in
    simp (e1, e2) at c.first_row.ensures
