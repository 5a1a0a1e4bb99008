-- None of the levels so far has the name.
use Rattle.std.specs.Prelude.{◌≡◌, drop}
use Rattle.std.specs.List.{list_any}
use Rattle.wad_file.specs.Fields.{same_bytes}
use Rattle.wad_file.specs.Directory.{entry_text}
use Rattle.wad_rebuild.proofs.levels.is_level_name.Given as goal

abbrev pub invariant-loop-level : goal.invariant-loop-level
invariant-loop-level l =
    list_any (λ x. same_bytes (entry_text l.wad x.marker) l.name) l.levels
    ≡ list_any (λ x. same_bytes (entry_text l.wad x.marker) l.name) (drop l.level-index l.levels)
