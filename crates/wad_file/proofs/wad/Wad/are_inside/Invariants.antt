-- None of the lumps so far ends beyond the file.
use Rattle.std.specs.Prelude.{◌≡◌, ◌+◌, ◌-◌}
use Rattle.wad_file.specs.Directory.{are_inside}
use Rattle.wad_file.proofs.wad.Wad.are_inside.Given as goal

abbrev pub invariant-loop-n : goal.invariant-loop-n
invariant-loop-n l = are_inside l.self l.from l.count ≡ are_inside l.self (l.from + l.n) (l.count - l.n)
