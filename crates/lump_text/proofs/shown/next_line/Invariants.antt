use Rattle.std.proofs.Common.{◌≡◌, ℕ, ◌<◌, false, get_or}
use Rattle.lump_text.specs.Shown.{is_line_feed}
use Rattle.lump_text.proofs.shown.next_line.Given as goal

-- no LF so far
abbrev pub invariant-loop-i : goal.invariant-loop-i
invariant-loop-i l = (k : ℕ) → k < l.i → is_line_feed (get_or l.text k 0) ≡ false
