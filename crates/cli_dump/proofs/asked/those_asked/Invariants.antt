-- Those that are asked for of the levels so far.
use Rattle.std.specs.Prelude.{◌≡◌, filter, map, string_bytes, take}
use Rattle.wad_levels.specs.Called.{is_asked_of}
use Rattle.cli_dump.proofs.asked.those_asked.Given as goal

abbrev pub invariant-loop-level : goal.invariant-loop-level
invariant-loop-level l = l.asked.items ≡ filter (is_asked_of (map string_bytes l.names) l.last) (take l.level-index l.levels)
