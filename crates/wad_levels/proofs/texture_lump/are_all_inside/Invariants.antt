use Rattle.std.specs.Prelude.{◌≡◌, true}
use Rattle.std.specs.List.{list_all, range_with_len}
use Rattle.wad_levels.specs.Graphics.{is_texture_inside}
use Rattle.wad_levels.proofs.texture_lump.are_all_inside.Given as goal

abbrev pub invariant-loop-n : goal.invariant-loop-n
invariant-loop-n l = list_all (is_texture_inside l.lump) (range_with_len 0 l.n) ≡ true
