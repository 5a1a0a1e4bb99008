use Rattle.std.proofs.Common.{◌≡◌, ◌+◌, ◌≤◌, ◌++◌, length, take}
use Rattle.tree_choice.specs.Sorting.{flagged_numbers}
use Rattle.tree_choice.proofs.sorting.note_open_blocks.Given as goal

-- the flagged ones of the first n blocks are noted
abbrev pub invariant-loop-n : goal.invariant-loop-n
invariant-loop-n l = record {
  is : take l.next l.noted ≡ take l.fn.count l.fn.noted ++ flagged_numbers l.fn.from (take l.n l.flags);
  few : l.next ≤ l.fn.count + l.n;
  room : length l.noted ≡ length l.fn.noted;
}
