use Rattle.std.proofs.Common.{◌≡◌, None, take}
use Rattle.std.specs.Prelude.{fold}
use Rattle.map_picture.specs.Floors.{with_floor}
use Rattle.map_picture.proofs.floors.floor_heights.Given as goal

abbrev pub invariant-loop-n : goal.invariant-loop-n
invariant-loop-n l = l.heights ≡ fold with_floor None (take l.n l.map.tables.sectors)
