use Rattle.std.specs.Prelude.{◌≡◌, ◌+◌, drop}
use Rattle.wad_levels.specs.Levels.{are_whole}
use Rattle.wad_levels.proofs.lumps.are_records.Given as goal

abbrev pub invariant-loop-n : goal.invariant-loop-n
invariant-loop-n l = are_whole l.wad l.from l.sizes ≡ are_whole l.wad (l.from + l.n) (drop l.n l.sizes)
