use Rattle.std.proofs.Common.{◌*◌, ◌/◌, min, length}
use Rattle.tree_choice.specs.Sorting.{IsSortedBy}
use Rattle.tree_choice.proofs.sorting.sort_all.Given as goal

-- the groups before the g-th are sorted
abbrev pub invariant-loop-g : goal.invariant-loop-g
invariant-loop-g l = IsSortedBy l.by l.blocks.pieces.now (256 * l.g) l.sorted l.noted

-- the whole blocks before the g-th sixteen are sorted
abbrev pub invariant-loop-g-2 : goal.invariant-loop-g-2
invariant-loop-g-2 l = IsSortedBy l.by l.blocks.pieces.now (16 * min (16 * l.g) (length l.blocks.pieces.now / 16)) l.sorted l.noted
