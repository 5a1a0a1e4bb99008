-- None of the lines so far passes.
use Rattle.std.proofs.Common.{◌≡◌, ◌==◌, ◌||◌, false, take}
use Rattle.std.specs.List.{list_any}
use Rattle.map_tables.specs.Keyed.{is_left}
use Rattle.map_tables.proofs.map.sides.has_line_with_key.Given as goal

abbrev pub invariant-loop-n : goal.invariant-loop-n
invariant-loop-n l = list_any (λ line. (line.right == l.key) || is_left line.left l.key) (take l.n l.lines.items) ≡ false
