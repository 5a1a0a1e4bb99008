use Rattle.std.proofs.Common.{◌≡◌, drop, take, ℕ, List}
use Rattle.std.specs.List.{list_any}
use Rattle.map_blocks.specs.Naming.{gives_name}
use Rattle.map_blocks.proofs.mentioning.one_gives.Given as goal

-- those so far aren't so
abbrev pub invariant-loop-place : goal.invariant-loop-place
invariant-loop-place l = list_any (λ (x : ℕ × List ℕ). gives_name l.name x.1) (drop l.place (take l.count l.lines)) ≡ list_any (λ (x : ℕ × List ℕ). gives_name l.name x.1) (take l.count l.lines)
