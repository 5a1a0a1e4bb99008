use Rattle.std.proofs.Common.{◌≡◌, false, take}
use Rattle.std.specs.List.{list_any}
use Rattle.map_plane.specs.Meeting.{is_on}
use Rattle.map_plane.specs.Places.{placed_lines}
use Rattle.map_plane.proofs.found.line_at.Given as goal

-- none so far
abbrev pub invariant-loop-n : goal.invariant-loop-n
invariant-loop-n l = list_any (λ k. is_on k l.place) (take l.n (placed_lines l.map.tables)) ≡ false
