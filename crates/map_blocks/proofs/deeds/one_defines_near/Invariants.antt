use Rattle.std.proofs.Common.{◌≡◌, drop, ℕ, List}
use Rattle.std.specs.List.{list_any}
use Rattle.map_blocks.specs.Deeds.{defines_near}
use Rattle.map_blocks.proofs.deeds.one_defines_near.Given as goal

-- those so far aren't so
abbrev pub invariant-loop-place : goal.invariant-loop-place
invariant-loop-place l = list_any (λ (x : ℕ × List ℕ). defines_near x.1 l.word) (drop l.place l.lines) ≡ list_any (λ (x : ℕ × List ℕ). defines_near x.1 l.word) l.lines
