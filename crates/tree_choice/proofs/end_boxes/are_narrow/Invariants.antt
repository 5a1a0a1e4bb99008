use Rattle.std.proofs.Common.{◌≤◌}
use Rattle.tree_choice.proofs.end_boxes.are_narrow.Given as goal

-- at most all groups before the n-th are counted
abbrev pub invariant-loop-n : goal.invariant-loop-n
invariant-loop-n l = l.count ≤ l.n
