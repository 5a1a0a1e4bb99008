use Rattle.std.specs.Prelude.{◌≡◌, ◌++◌, map}
use Rattle.std.specs.List.{range_with_len}
use Rattle.wad_levels.specs.Graphics.{nth_texture}
use Rattle.wad_levels.proofs.graphics.add_textures.Given as goal

abbrev pub invariant-loop-n : goal.invariant-loop-n
invariant-loop-n l =
    l.textures.items ≡ l.initial.textures.items ++ map (nth_texture l.widths l.lump) (range_with_len 0 l.n)
