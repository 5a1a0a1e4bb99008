-- None of the lines so far passes.
use Rattle.std.proofs.Common.{◌≡◌, false, take}
use Rattle.std.specs.List.{list_any}
use Rattle.std.specs.Prelude.{slice_set}
use Rattle.map_tables.specs.Keyed.{stretches}
use Rattle.map_tables.proofs.map.vertices.has_line_stretched.Given as goal

abbrev pub invariant-loop-n : goal.invariant-loop-n
invariant-loop-n l = list_any (stretches l.vertices.keys (slice_set l.vertices.items l.moved l.to) l.moved) (take l.n l.lines.items) ≡ false
