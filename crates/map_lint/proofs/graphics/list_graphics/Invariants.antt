use Rattle.std.proofs.Common.{◌≡◌, ◌++◌}
use Rattle.std.specs.Prelude.{filter_map}
use Rattle.std.specs.List.{range_with_len}
use Rattle.map_lint.specs.Graphics.{graphic_warning}
use Rattle.map_lint.proofs.graphics.list_graphics.Given as goal

abbrev pub invariant-loop-n : goal.invariant-loop-n
invariant-loop-n l =
    l.found.items ≡ l.initial.found.items
    ++ filter_map (graphic_warning l.flats.names.now l.textures.textures.now l.map.tables l.rule) (range_with_len 0 l.n)
