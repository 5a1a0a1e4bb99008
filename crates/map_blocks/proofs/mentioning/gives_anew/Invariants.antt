use Rattle.std.proofs.Common.{◌≡◌, drop, ℕ, List}
use Rattle.std.specs.List.{list_any}
use Rattle.map_blocks.specs.Naming.{gives_one_of}
use Rattle.map_blocks.proofs.mentioning.gives_anew.Given as goal

-- those so far aren't so
abbrev pub invariant-loop-place : goal.invariant-loop-place
invariant-loop-place l = list_any (λ (x : ℕ × List ℕ). gives_one_of x.1 l.other) (drop l.place l.lines) ≡ list_any (λ (x : ℕ × List ℕ). gives_one_of x.1 l.other) l.lines
