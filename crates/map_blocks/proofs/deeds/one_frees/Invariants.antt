use Rattle.std.proofs.Common.{◌≡◌, drop, ℕ, List}
use Rattle.std.specs.List.{list_any}
use Rattle.map_blocks.specs.Deeds.{frees_place}
use Rattle.map_blocks.proofs.deeds.one_frees.Given as goal

-- those so far aren't so
abbrev pub invariant-loop-place : goal.invariant-loop-place
invariant-loop-place l = list_any (λ (x : ℕ × List ℕ). frees_place x.1) (drop l.place l.lines) ≡ list_any (λ (x : ℕ × List ℕ). frees_place x.1) l.lines
