use Rattle.std.specs.Prelude.{◌≡◌, ℕ, ◌+◌, ◌<◌, ◌≤◌, true}
use Rattle.wad_levels.specs.Entries.{goes_on}
use Rattle.wad_levels.proofs.entries.lumps_end.Given as goal

-- each entry so far goes on
abbrev pub invariant-loop-k : goal.invariant-loop-k
invariant-loop-k l = (j : ℕ) → l.marker + 1 ≤ j → j < l.k → goes_on l.wad l.marker j ≡ true
