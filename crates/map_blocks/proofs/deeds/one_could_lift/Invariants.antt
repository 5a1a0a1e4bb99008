use Rattle.std.proofs.Common.{◌≡◌, drop, ℕ, List}
use Rattle.std.specs.List.{list_any}
use Rattle.map_blocks.specs.Deeds.{could_lift}
use Rattle.map_blocks.proofs.deeds.one_could_lift.Given as goal

-- those so far aren't so
abbrev pub invariant-loop-place : goal.invariant-loop-place
invariant-loop-place l = list_any (λ (x : ℕ × List ℕ). could_lift l.lines l.cause x.1) (drop l.place l.out) ≡ list_any (λ (x : ℕ × List ℕ). could_lift l.lines l.cause x.1) l.out
