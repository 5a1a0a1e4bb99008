use Rattle.std.proofs.Common.{take}
use Rattle.map_lint.specs.Tallies.{MarksBordered}
use Rattle.map_lint.proofs.borders.bordered_sectors.Given as goal

abbrev pub invariant-loop-n : goal.invariant-loop-n
invariant-loop-n l = MarksBordered l.map.tables (take l.n l.map.tables.lines) l.marks.items
