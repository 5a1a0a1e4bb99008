-- The sides so far have the keys of their sectors.
use Rattle.std.proofs.Common.{◌≡◌, map, take}
use Rattle.map_tables.specs.Keyed.{side_of}
use Rattle.map_tables.proofs.map.keyed_side.keyed_sides.Given as goal

abbrev pub invariant-loop-side : goal.invariant-loop-side
invariant-loop-side l = map (side_of l.sectors.keys) l.table.items ≡ take l.side-index l.sides
