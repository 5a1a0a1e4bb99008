-- The sides so far have the numbers of their sectors.
use Rattle.std.proofs.Common.{◌≡◌, map, take}
use Rattle.map_tables.specs.Keyed.{side_of}
use Rattle.map_tables.proofs.map.keyed_side.numbered_sides.Given as goal

abbrev pub invariant-loop-n : goal.invariant-loop-n
invariant-loop-n l = l.list.items ≡ map (side_of l.sectors.keys) (take l.n l.sides.items)
