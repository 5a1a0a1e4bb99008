use Rattle.std.proofs.Common.{sym, subst}
use Rattle.tree_choice.specs.Blocks.{HoldAllEnds}
use Rattle.tree_choice.proofs.walk.count_by_ends.Goals as goal

pub sort_all-sorted-requires-clause-ends : goal.sort_all-sorted-requires-clause-ends
sort_all-sorted-requires-clause-ends c =
    subst (HoldAllEnds 256 c.args.by.now.lines.now c.args.list.now.pieces.now) (sym c.deref.ensures.value) c.requires.list.boxes.groups

pub count_open-requires-clause-boxes : goal.count_open-requires-clause-boxes
count_open-requires-clause-boxes c =
    subst (HoldAllEnds 16 c.args.by.now.lines.now c.args.list.now.pieces.now) (sym c.deref-2.ensures.value) c.requires.list.boxes.blocks
