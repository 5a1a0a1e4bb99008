use Rattle.std.proofs.Common.{◌≡◌, ◌++◌, flat_map, take}
use Rattle.std.specs.List.{enumerate_from}
use Rattle.map_checks.specs.Textures.{line_misses}
use Rattle.map_checks.proofs.textures.list_missing_textures.Given as goal

abbrev pub invariant-loop-n : goal.invariant-loop-n
invariant-loop-n l =
    l.found.items
    ≡ l.initial.found.items ++ flat_map (line_misses l.map.tables) (enumerate_from 0 (take l.n l.map.tables.lines))
