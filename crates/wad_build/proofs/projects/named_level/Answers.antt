use Rattle.wad_build.specs.declared.levels.NamedLevel.{NamedLevel}
use Rattle.wad_build.specs.declared.error.BuildError.TheVariants as build
use Rattle.wad_build.proofs.ProjectLemmas.{same_refusal}
use Rattle.wad_build.proofs.SoundLemmas.{built_some}
use Rattle.wad_build.proofs.projects.named_level.Goals as goal

pub returns-in-Ok-clause-nothing : goal.returns-in-Ok-clause-nothing
returns-in-Ok-clause-nothing c =
    let level : NamedLevel = record { name = c.name-name.result; level = c.in-Ok.level } in
    built_some c.args.map.now.tables c.in-Ok.ensures.level.tree level build.NothingToBuild c.in-Ok.ensures.level.built

pub returns-in-Err-clause-nothing : goal.returns-in-Err-clause-nothing
returns-in-Err-clause-nothing c = same_refusal c.in-Err.error build.NothingToBuild c.in-Err.ensures.nothing
