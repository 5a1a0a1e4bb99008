use Rattle.std.proofs.Common.{take}
use Rattle.map_tables.specs.Faults.{uses_vertex}
use Rattle.map_checks.specs.Tallies.{Marks}
use Rattle.map_checks.proofs.unused.used_vertices.Given as goal

abbrev pub invariant-loop-n : goal.invariant-loop-n
invariant-loop-n l = Marks uses_vertex l.map.tables.vertices (take l.n l.map.tables.lines) l.used.items
