use Rattle.std.specs.Prelude.{◌≡◌, replicate, []}
use Rattle.map_plane.proofs.bands.empty_bands.Given as goal

abbrev pub invariant-loop-band : goal.invariant-loop-band
invariant-loop-band l = l.bands.items ≡ replicate l._band []
