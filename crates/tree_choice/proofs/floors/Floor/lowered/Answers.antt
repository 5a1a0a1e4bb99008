use Rattle.std.proofs.Common.{◌≡◌, ◌≤◌, length, subst, arith}
use Rattle.tree_pieces.specs.Division.{left_parts}
use Rattle.tree_pieces.specs.Tree.{cost}
use Rattle.tree_choice.specs.declared.floors.Floor.{Floor}
use Rattle.tree_choice.specs.Floors.{IsFloor}
use Rattle.tree_choice.proofs.Exchanged.{cost_lowered}
use Rattle.tree_choice.proofs.floors.Floor.lowered.Goals as goal

pub returns-in-AtLeast : goal.returns-in-AtLeast
returns-in-AtLeast c = λ lines ps part p k f.
    let h : c.in-AtLeast.cost ≤ cost lines p ps = subst (λ (k : Floor). IsFloor lines ps p k) c.in-AtLeast.is f in
    let m = cost_lowered lines p ps part c.args.change c.in-AtLeast.cost k h in
    let s = c.saturating_sub.ensures in
    let d = c.abs_diff.ensures in
    let r = c.saturating_sub-in-AtLeast.ensures in
    omega arith

pub returns-then-new-eq0 : goal.returns-then-new-eq0
returns-then-new-eq0 c = λ lines ps part p k f.
    let h : length (left_parts lines p ps) ≡ 0 = subst (λ (k : Floor). IsFloor lines ps p k) c.in-NoneLeft.is f in
    let l = k.left in
    let z = c.if-new-eq0.true in
    omega arith
