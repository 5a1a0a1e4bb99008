-- What the textures so far have, each at most 65,535.
use Rattle.std.specs.Prelude.{◌≡◌, ◌≤◌, ◌*◌, sum_by}
use Rattle.std.specs.List.{range_with_len}
use Rattle.wad_levels.specs.Graphics.{column_count}
use Rattle.wad_levels.proofs.texture_lump.all_columns.Given as goal

abbrev pub invariant-loop-n : goal.invariant-loop-n
invariant-loop-n l = (l.sum ≡ sum_by (column_count l.lump) (range_with_len 0 l.n)) × (l.sum ≤ 65535 * l.n)
