use Rattle.std.proofs.Common.{◌≡◌, false, take}
use Rattle.std.specs.List.{list_any}
use Rattle.map_tables.specs.Faults.{is_place}
use Rattle.map_areas.proofs.drawing.find_vertex.Given as goal

-- none of the vertices so far stands there
abbrev pub invariant-loop-n : goal.invariant-loop-n
invariant-loop-n l = list_any (is_place l.place) (take l.n l.vertices) ≡ false
