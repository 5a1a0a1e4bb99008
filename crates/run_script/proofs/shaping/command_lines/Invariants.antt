use Rattle.std.proofs.Common.{◌≡◌, map, take}
use Rattle.std.specs.Prelude.{vec_items}
use Rattle.run_script.specs.Shaped.{command_lines}
use Rattle.run_script.proofs.shaping.command_lines.Given as goal

-- the lines of the commands so far
abbrev pub invariant-loop-command : goal.invariant-loop-command
invariant-loop-command l = map vec_items l.lines.items ≡ command_lines (take l.command-index l.commands)
