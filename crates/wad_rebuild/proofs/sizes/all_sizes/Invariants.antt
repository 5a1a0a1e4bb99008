-- What the entries so far give their lumps, each less than four gigabytes.
use Rattle.std.specs.Prelude.{◌≡◌, ◌≤◌, ◌*◌}
use Rattle.wad_rebuild.specs.Rebuilt.{sizes_below}
use Rattle.wad_rebuild.proofs.sizes.all_sizes.Given as goal

abbrev pub invariant-loop-k : goal.invariant-loop-k
invariant-loop-k l = (l.sum ≡ sizes_below l.wad l.k) × (l.sum ≤ 4294967295 * l.k)
