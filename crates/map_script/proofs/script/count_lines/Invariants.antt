use Rattle.std.proofs.Common.{◌+◌, ◌≤◌, length}
use Rattle.std.specs.Option.{option_copied}
use Rattle.map_script.specs.Views.{len_behind}
use Rattle.map_script.proofs.script.count_lines.Given as goal

-- no more lines than bytes, and one
abbrev pub invariant-loop-rest : goal.invariant-loop-rest
invariant-loop-rest l = l.count + len_behind (option_copied l.rest) ≤ length l.fn.script + 1

abbrev pub decreases-loop-rest : goal.decreases-loop-rest
decreases-loop-rest l = len_behind (option_copied l.rest)
