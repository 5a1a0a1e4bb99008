use Rattle.std.proofs.Common.{◌≡◌, ◌*◌, ◌-◌, length}
use Rattle.tree_choice.specs.Blocks.{HoldAllEnds}
use Rattle.tree_choice.proofs.end_boxes.note_boxes.Given as goal

-- the boxes of the pieces before `from` are noted
abbrev pub invariant-loop-from : goal.invariant-loop-from
invariant-loop-from l = record {
  made : l.from ≡ l.size * length l.boxes.items;
  holds : HoldAllEnds l.size l.lines l.list.pieces.now l.boxes.items;
}

abbrev pub decreases-loop-from : goal.decreases-loop-from
decreases-loop-from l = length l.pieces - l.from
