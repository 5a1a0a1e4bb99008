use Rattle.std.specs.Prelude.{◌≡◌, map}
use Rattle.std.specs.List.{range_with_len}
use Rattle.wad_levels.specs.Patches.{nth_patch}
use Rattle.wad_levels.proofs.patches.patches_of.Given as goal

abbrev pub invariant-loop-n : goal.invariant-loop-n
invariant-loop-n l = l.patches.items ≡ map (nth_patch l.widths l.lump l.at) (range_with_len 0 l.n)
