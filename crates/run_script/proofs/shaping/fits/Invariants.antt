use Rattle.std.proofs.Common.{◌≡◌, drop}
use Rattle.std.specs.Prelude.{nat_le}
use Rattle.run_script.specs.Shaped.{growth_of_all}
use Rattle.run_script.proofs.shaping.fits.Given as goal

-- what is left has room for the other commands exactly where there was room for all
abbrev pub invariant-loop-command : goal.invariant-loop-command
invariant-loop-command l =
    nat_le (growth_of_all (drop l.command-index l.commands)) l.left ≡ nat_le (growth_of_all l.commands) l.fn.left
