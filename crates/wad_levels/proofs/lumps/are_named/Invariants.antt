use Rattle.std.specs.Prelude.{◌≡◌, ◌+◌, drop}
use Rattle.wad_levels.specs.Levels.{are_named}
use Rattle.wad_levels.proofs.lumps.are_named.Given as goal

abbrev pub invariant-loop-n : goal.invariant-loop-n
invariant-loop-n l = are_named l.wad l.from l.names ≡ are_named l.wad (l.from + l.n) (drop l.n l.names)
