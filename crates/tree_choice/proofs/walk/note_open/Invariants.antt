use Rattle.std.proofs.Common.{◌≡◌, ◌<◌, ◌≤◌, length, take, All}
use Rattle.tree_choice.specs.Clear.{flagged, pieces_at}
use Rattle.tree_choice.proofs.walk.note_open.Given as goal

-- the flagged pieces before the n-th are noted
abbrev pub invariant-loop-n : goal.invariant-loop-n
invariant-loop-n l = record {
  is : pieces_at l.pieces (take l.count l.places) ≡ flagged (take l.n l.flags) (take l.n l.pieces);
  each : All (λ k. k < length l.pieces) (take l.count l.places);
  few : l.count ≤ l.n;
  room : length l.places ≡ 16;
}
