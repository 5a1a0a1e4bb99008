use Rattle.std.specs.Prelude.{◌≡◌, ℕ, ◌<◌, ◌≤◌, true}
use Rattle.wad_levels.specs.Entries.{is_gl}
use Rattle.wad_levels.proofs.entries.gl_end.Given as goal

-- each entry so far is of such a lump
abbrev pub invariant-loop-k : goal.invariant-loop-k
invariant-loop-k l = (j : ℕ) → l.from ≤ j → j < l.k → is_gl l.wad l.marker j ≡ true
