use Rattle.std.proofs.Common.{take}
use Rattle.map_tables.specs.Faults.{in_sector}
use Rattle.map_checks.specs.Tallies.{Marks}
use Rattle.map_checks.proofs.unused.used_sectors.Given as goal

abbrev pub invariant-loop-n : goal.invariant-loop-n
invariant-loop-n l = Marks in_sector l.map.tables.sectors (take l.n l.map.tables.sides) l.used.items
