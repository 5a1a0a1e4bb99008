-- None of the sides so far has the key.
use Rattle.std.proofs.Common.{◌≡◌, ◌==◌, false, take}
use Rattle.std.specs.List.{list_any}
use Rattle.map_tables.proofs.map.sectors.has_side_with.Given as goal

abbrev pub invariant-loop-n : goal.invariant-loop-n
invariant-loop-n l = list_any (λ s. s.sector == l.key) (take l.n l.sides.items) ≡ false
