use Rattle.std.proofs.Common.{rules}
use Rattle.std.proofs.lemmas.Int.{to_z-of_z}
use Rattle.std.specs.Prelude.{FitsSigned}
use Rattle.std.specs.Int.{w16, w32}
use Rattle.tree_blocks.proofs.touch.boxes_meet.Goals as goal

pub returns-then-spans_meet : goal.returns-then-spans_meet
returns-then-spans_meet c =
    let f1 : FitsSigned w16 c.args.start.x = search rules in
    let e1 = to_z-of_z w16 c.args.start.x f1 in
    let f2 : FitsSigned w16 c.args.start.y = search rules in
    let e2 = to_z-of_z w16 c.args.start.y f2 in
    let f3 : FitsSigned w16 c.args.end.x = search rules in
    let e3 = to_z-of_z w16 c.args.end.x f3 in
    let f4 : FitsSigned w16 c.args.end.y = search rules in
    let e4 = to_z-of_z w16 c.args.end.y f4 in
    let e5 = to_z-of_z w32 c.args.left c.ranges.left in
    let e6 = to_z-of_z w32 c.args.bottom c.ranges.bottom in
    let g = simp (e1, e3, e5) at c.spans_meet.ensures in
    let h = simp (e2, e4, e6) at c.spans_meet-then-spans_meet.ensures in
    (λ t. record { across = g.0 c.if-spans_meet.true; upward = h.0 t }, λ b. h.1 b.upward)
