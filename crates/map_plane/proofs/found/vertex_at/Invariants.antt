use Rattle.std.proofs.Common.{◌≡◌, false, take}
use Rattle.std.specs.List.{list_any}
use Rattle.map_plane.specs.Meeting.{is_at}
use Rattle.map_plane.proofs.found.vertex_at.Given as goal

-- none so far
abbrev pub invariant-loop-n : goal.invariant-loop-n
invariant-loop-n l = list_any (is_at l.place) (take l.n l.map.tables.vertices) ≡ false
