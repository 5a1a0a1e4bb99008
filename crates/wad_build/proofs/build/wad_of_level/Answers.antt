use Rattle.std.proofs.Common.{[]}
use Rattle.std.proofs.lemmas.List.Elements.{All-head}
use Rattle.lump_records.specs.Names.{name_text}
use Rattle.wad_levels.specs.Levels.{IsLevel}
use Rattle.wad_build.specs.Views.{built_view}
use Rattle.wad_build.specs.declared.levels.NamedLevel.{NamedLevel}
use Rattle.wad_build.proofs.build.wad_of_level.Goals as goal

pub returns-in-Ok-clause-level : goal.returns-in-Ok-clause-level
returns-in-Ok-clause-level c =
    All-head (λ (l : NamedLevel). IsLevel c.in-Ok.built.bytes.items (name_text l.name) (built_view l.level)) (record { name = c.args.name; level = c.args.level }) [] c.in-Ok.ensures.levels
