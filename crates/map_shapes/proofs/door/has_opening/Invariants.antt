use Rattle.std.proofs.Common.{◌≡◌, false, take}
use Rattle.std.specs.Prelude.{is_some}
use Rattle.std.specs.List.{list_any}
use Rattle.map_shapes.specs.Doors.{opening}
use Rattle.map_shapes.proofs.door.has_opening.Given as goal

-- none so far
abbrev pub invariant-loop-n : goal.invariant-loop-n
invariant-loop-n l = list_any (λ line. is_some (opening l.map.tables.sides l.sector line)) (take l.n l.map.tables.lines) ≡ false
