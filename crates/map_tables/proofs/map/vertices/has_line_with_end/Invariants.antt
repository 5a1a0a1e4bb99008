-- None of the lines so far passes.
use Rattle.std.proofs.Common.{◌≡◌, ◌==◌, ◌||◌, false, take}
use Rattle.std.specs.List.{list_any}
use Rattle.map_tables.proofs.map.vertices.has_line_with_end.Given as goal

abbrev pub invariant-loop-n : goal.invariant-loop-n
invariant-loop-n l = list_any (λ line. (line.v1 == l.key) || (line.v2 == l.key)) (take l.n l.lines.items) ≡ false
