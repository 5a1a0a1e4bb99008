-- Each of the names so far is a level's.
use Rattle.std.specs.Prelude.{◌≡◌, drop, string_bytes}
use Rattle.std.specs.List.{list_all}
use Rattle.wad_rebuild.specs.Rebuilt.{has_level}
use Rattle.wad_rebuild.proofs.levels.have_levels.Given as goal

abbrev pub invariant-loop-name : goal.invariant-loop-name
invariant-loop-name l =
    list_all (λ x. has_level l.wad (string_bytes x)) l.names
    ≡ list_all (λ x. has_level l.wad (string_bytes x)) (drop l.name-index l.names)
