use Rattle.std.proofs.Common.{◌≡◌, true, take}
use Rattle.std.specs.Prelude.{All}
use Rattle.map_areas.specs.Stops.{comes_first}
use Rattle.map_areas.proofs.cuts.count_before.Given as goal

-- the places so far come before this one
abbrev pub invariant-loop-n : goal.invariant-loop-n
invariant-loop-n l = All (λ p. comes_first l.line p l.place ≡ true) (take l.n l.places)
