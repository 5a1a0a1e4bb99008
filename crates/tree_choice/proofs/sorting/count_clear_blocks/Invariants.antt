use Rattle.std.proofs.Common.{◌≡◌, ◌≤◌, length, take}
use Rattle.tree_choice.specs.Sorting.{AreClearBlocks}
use Rattle.tree_choice.proofs.sorting.count_clear_blocks.Given as goal

-- the first n blocks are counted or flagged
abbrev pub invariant-loop-n : goal.invariant-loop-n
invariant-loop-n l = record {
  is : AreClearBlocks l.by.lines.now l.by.piece.now l.blocks.pieces.now l.fn.from l.n (take l.n l.flags) l.right l.left;
  right : l.right ≤ l.n;
  left : l.left ≤ l.n;
  room : length l.flags ≡ 16;
}
