-- The last of the levels so far that is called so.
use Rattle.std.specs.Prelude.{◌≡◌, take}
use Rattle.wad_levels.specs.Called.{last_called}
use Rattle.wad_levels.proofs.called.last_called.Given as goal

abbrev pub invariant-loop-level : goal.invariant-loop-level
invariant-loop-level l = l.last ≡ last_called l.wad (take l.level-index l.levels) l.name
