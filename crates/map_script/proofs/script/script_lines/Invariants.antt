use Rattle.std.proofs.Common.{◌≡◌, ◌+◌, ◌≤◌, ◌++◌, length}
use Rattle.std.specs.Option.{option_copied}
use Rattle.map_script.specs.Scripts.{script_lines}
use Rattle.map_script.specs.Views.{AreLineEnds, len_behind, lines_behind, lines_from}
use Rattle.map_script.proofs.Cleaning.{told_lines}
use Rattle.map_script.proofs.script.script_lines.Given as goal

-- the lines so far, and those of the rest, are the script's
abbrev pub invariant-loop-rest : goal.invariant-loop-rest
invariant-loop-rest l =
    (lines_from l.texts.items 0 l.ends.items ++ told_lines l.number (lines_behind (option_copied l.rest)) ≡ script_lines l.fn.script)
    × (l.number + len_behind (option_copied l.rest) ≤ length l.fn.script + 1)
    × AreLineEnds 0 l.ends.items (length l.texts.items)

abbrev pub decreases-loop-rest : goal.decreases-loop-rest
decreases-loop-rest l = len_behind (option_copied l.rest)
