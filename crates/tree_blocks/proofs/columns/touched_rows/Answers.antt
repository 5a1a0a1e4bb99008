use Rattle.std.proofs.Common.{arith, rules, ◌≤◌, ◌<◌}
use Rattle.std.proofs.lemmas.Int.{to_z-of_z}
use Rattle.std.specs.Prelude.{FitsSigned, ◌+ℤ◌, pos, ◌*◌}
use Rattle.std.specs.Int.{w16, w32}
use Rattle.tree_blocks.proofs.RowLemmas.{touches-column, found_rows}
use Rattle.tree_blocks.proofs.columns.touched_rows.Goals as goal

pub returns-then-not-spans_meet : goal.returns-then-not-spans_meet
returns-then-not-spans_meet c =
    let e1 = to_z-of_z w32 c.args.left c.ranges.left in
    let f2 : FitsSigned w16 c.args.line.start.x = search rules in
    let e2 = to_z-of_z w16 c.args.line.start.x f2 in
    let f3 : FitsSigned w16 c.args.line.end.x = search rules in
    let e3 = to_z-of_z w16 c.args.line.end.x f3 in
    let t = simp (e1, e2, e3) at c.spans_meet.ensures in
    λ r h u. let k = t.1 (touches-column c.args.line.start c.args.line.end c.args.left (c.args.bottom +ℤ pos (128 * r)) u) in let f = c.if-not-spans_meet.true in cc

pub returns-in-Some : goal.returns-in-Some
returns-in-Some c =
    let e1 = to_z-of_z w32 c.args.left c.ranges.left in
    let e2 = to_z-of_z w16 c.args.bottom c.ranges.bottom in
    let f = simp (e1, e2) at c.in-Some.ensures in
    let t = simp (e1, e2) at c.least_row-low.ensures.touched in
    let none = simp (e1, e2) at c.least_row-low.ensures.least in
    let among = c.least_row-low.ensures.among in
    let u = simp (e1, e2) at c.greatest_row-high.ensures.touched in
    let l = simp (e1, e2) at c.greatest_row-high.ensures.greatest in
    let a = c.greatest_row-high.ensures.among in
    let over : c.in-Some.row ≤ c.greatest_row-high.result = a.0 in
    let below : c.greatest_row-high.result < c.args.rows = a.1 in
    found_rows c.args.line.start c.args.line.end c.args.left c.args.bottom c.args.rows c.least_row-low.result c.greatest_row-high.result (omega (arith, among, over, below)) t none
    (omega (arith, among, over)) below u l

pub returns-in-None : goal.returns-in-None
returns-in-None c =
    let e1 = to_z-of_z w32 c.args.left c.ranges.left in
    let e2 = to_z-of_z w16 c.args.bottom c.ranges.bottom in
    simp (e1, e2) at c.in-None.ensures
