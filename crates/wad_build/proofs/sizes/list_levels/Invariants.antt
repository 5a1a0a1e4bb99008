-- The lumps of the levels so far are listed.
use Rattle.std.specs.Prelude.{◌≡◌, take}
use Rattle.wad_build.specs.Views.{sized_levels}
use Rattle.wad_build.proofs.sizes.list_levels.Given as goal

abbrev pub invariant-loop-n : goal.invariant-loop-n
invariant-loop-n l = l.list ≡ sized_levels (take l.n l.levels)
