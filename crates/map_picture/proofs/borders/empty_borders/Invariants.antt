use Rattle.std.specs.Prelude.{◌≡◌, replicate, []}
use Rattle.map_picture.proofs.borders.empty_borders.Given as goal

abbrev pub invariant-loop-sector : goal.invariant-loop-sector
invariant-loop-sector l = l.borders.items ≡ replicate l.sector []
