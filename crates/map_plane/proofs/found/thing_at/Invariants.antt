use Rattle.std.proofs.Common.{◌≡◌, false, take}
use Rattle.std.specs.List.{list_any}
use Rattle.map_plane.specs.Found.{stands_at}
use Rattle.map_plane.proofs.found.thing_at.Given as goal

-- none so far
abbrev pub invariant-loop-n : goal.invariant-loop-n
invariant-loop-n l = list_any (stands_at l.place) (take l.n l.map.tables.things) ≡ false
