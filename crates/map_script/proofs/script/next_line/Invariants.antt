use Rattle.std.proofs.Common.{◌≡◌, ℕ, ◌<◌, false, get_or}
use Rattle.map_script.specs.Scripts.{is_line_end}
use Rattle.map_script.proofs.script.next_line.Given as goal

-- no LF so far
abbrev pub invariant-loop-i : goal.invariant-loop-i
invariant-loop-i l = (k : ℕ) → k < l.i → is_line_end (get_or l.script k 0) ≡ false
