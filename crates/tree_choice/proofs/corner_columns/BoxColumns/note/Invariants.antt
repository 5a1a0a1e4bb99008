use Rattle.std.proofs.Common.{◌≡◌, length, take}
use Rattle.std.specs.Prelude.{map}
use Rattle.tree_choice.specs.Columns.{IsLongEnough, left_top, left_bottom, right_top, right_bottom}
use Rattle.tree_choice.proofs.corner_columns.BoxColumns.note.Given as goal

-- the corners of the boxes before the n-th are noted
abbrev pub invariant-loop-n : goal.invariant-loop-n
invariant-loop-n l = record {
  left_top : take l.n l.self.left_top.items ≡ map left_top (take l.n l.boxes);
  left_bottom : take l.n l.self.left_bottom.items ≡ map left_bottom (take l.n l.boxes);
  right_top : take l.n l.self.right_top.items ≡ map right_top (take l.n l.boxes);
  right_bottom : take l.n l.self.right_bottom.items ≡ map right_bottom (take l.n l.boxes);
  room : IsLongEnough l.self (length l.boxes);
}
