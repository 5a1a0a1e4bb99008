-- The lumps so far are listed.
use Rattle.std.specs.Prelude.{◌≡◌, ◌++◌, take}
use Rattle.wad_build.specs.Sizes.{with_sizes}
use Rattle.wad_build.proofs.sizes.list_lumps.Given as goal

abbrev pub invariant-loop-n : goal.invariant-loop-n
invariant-loop-n l = l.list ≡ l.initial.list ++ with_sizes (take l.n l.names) (take l.n l.sizes)
