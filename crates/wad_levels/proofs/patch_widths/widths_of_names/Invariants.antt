use Rattle.std.specs.Prelude.{◌≡◌, map}
use Rattle.std.specs.List.{range_with_len}
use Rattle.wad_levels.specs.Patches.{width_of_number}
use Rattle.wad_levels.proofs.patch_widths.widths_of_names.Given as goal

abbrev pub invariant-loop-n : goal.invariant-loop-n
invariant-loop-n l = l.widths.items ≡ map (width_of_number l.wad l.names) (range_with_len 0 l.n)
