use Rattle.wad_build.specs.Views.{built_view}
use Rattle.wad_build.specs.declared.error.BuildError.TheVariants as build
use Rattle.wad_build.proofs.LengthLemmas.{lengths}
use Rattle.wad_build.proofs.SoundLemmas.{level_writable, sound_build, holds_one, parts_of_level, buildable, built_some, memory_some}
use Rattle.wad_build.proofs.build.build_wad.Goals as goal

pub wad_of_level-requires-clause-sized : goal.wad_of_level-requires-clause-sized
wad_of_level-requires-clause-sized c =
    lengths (built_view c.in-Ok.level) (level_writable c.args.map.now.tables (built_view c.in-Ok.level) c.in-Ok.ensures.level)

pub wad_of_level-requires-clause-parts : goal.wad_of_level-requires-clause-parts
wad_of_level-requires-clause-parts c =
    parts_of_level c.args.map.now.tables (built_view c.in-Ok.level) c.name.result c.name.ensures c.in-Ok.ensures.level

pub returns-in-Ok-wad_of_level-clause-sound : goal.returns-in-Ok-wad_of_level-clause-sound
returns-in-Ok-wad_of_level-clause-sound c =
    sound_build c.args.map.now.tables (built_view c.in-Ok.level) c.in-Ok-wad_of_level.wad.items c.name.result c.name.ensures c.in-Ok.ensures.level c.in-Ok-wad_of_level.ensures.level

pub returns-in-Ok-wad_of_level-clause-whole : goal.returns-in-Ok-wad_of_level-clause-whole
returns-in-Ok-wad_of_level-clause-whole c =
    holds_one c.args.map.now.tables (built_view c.in-Ok.level) c.in-Ok-wad_of_level.wad.items c.name.result c.name.ensures c.in-Ok.ensures.level c.in-Ok-wad_of_level.ensures.bytes

pub returns-in-Ok-wad_of_level-clause-buildable : goal.returns-in-Ok-wad_of_level-clause-buildable
returns-in-Ok-wad_of_level-clause-buildable c =
    buildable c.args.map.now.tables (built_view c.in-Ok.level) c.in-Ok.ensures.level

pub returns-in-Ok-wad_of_level-clause-nothing : goal.returns-in-Ok-wad_of_level-clause-nothing
returns-in-Ok-wad_of_level-clause-nothing c =
    built_some c.args.map.now.tables c.in-Ok.ensures.level.tree c.in-Ok-wad_of_level.wad build.NothingToBuild c.in-Ok.ensures.level.built

pub returns-in-Err-wad_of_level-clause-nothing : goal.returns-in-Err-wad_of_level-clause-nothing
returns-in-Err-wad_of_level-clause-nothing c =
    memory_some c.args.map.now.tables c.in-Ok.ensures.level.tree c.in-Ok.ensures.level.built
