-- What the entries so far give their lumps, each less than four gigabytes.
use Rattle.std.specs.Prelude.{◌≡◌, ◌≤◌, ◌*◌}
use Rattle.cli_rebuild.specs.Holding.{sizes_in}
use Rattle.cli_rebuild.proofs.held.all_sizes.Given as goal

abbrev pub invariant-loop-k : goal.invariant-loop-k
invariant-loop-k l = (l.sum ≡ sizes_in l.directory l.k) × (l.sum ≤ 4294967295 * l.k)
