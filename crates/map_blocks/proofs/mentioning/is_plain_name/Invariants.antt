use Rattle.std.proofs.Common.{◌≡◌, ◌||◌, drop, ℕ, List}
use Rattle.std.specs.Prelude.{not}
use Rattle.std.specs.List.{list_all}
use Rattle.map_blocks.specs.Naming.{gives_name, is_plain_line, is_plain_name}
use Rattle.map_blocks.proofs.mentioning.is_plain_name.Given as goal

-- those so far that give the name do so plainly
abbrev pub invariant-loop-place : goal.invariant-loop-place
invariant-loop-place l = list_all (λ (x : ℕ × List ℕ). not (gives_name l.name x.1) || is_plain_line x.1) (drop l.place l.lines) ≡ is_plain_name l.lines l.name
