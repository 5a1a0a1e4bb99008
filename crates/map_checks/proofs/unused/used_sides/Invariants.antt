use Rattle.std.proofs.Common.{take}
use Rattle.map_tables.specs.Faults.{uses_side}
use Rattle.map_checks.specs.Tallies.{Marks}
use Rattle.map_checks.proofs.unused.used_sides.Given as goal

abbrev pub invariant-loop-n : goal.invariant-loop-n
invariant-loop-n l = Marks uses_side l.map.tables.sides (take l.n l.map.tables.lines) l.used.items
