-- The last levels of the names so far.
use Rattle.std.specs.Prelude.{◌≡◌, map, string_bytes, take}
use Rattle.wad_levels.specs.Called.{last_of_each}
use Rattle.wad_levels.proofs.called.last_of_each.Given as goal

abbrev pub invariant-loop-name : goal.invariant-loop-name
invariant-loop-name l = l.last.items ≡ last_of_each l.wad l.levels (map string_bytes (take l.name-index l.names))
