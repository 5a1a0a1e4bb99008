use Rattle.std.proofs.Common.{◌≡◌, sym, subst, length, List}
use Rattle.std.specs.Prelude.{All}
use Rattle.lump_records.specs.Names.{name_text}
use Rattle.map_tables.specs.Tables.{empty_tables}
use Rattle.map_tables.specs.Projects.{project_of}
use Rattle.wad_build.specs.declared.levels.NamedLevel.{NamedLevel}
use Rattle.wad_build.specs.Counted.{CountsLevels}
use Rattle.wad_levels.specs.Levels.{IsLevel}
use Rattle.wad_build.specs.Views.{built_view, level_parts}
use Rattle.wad_build.specs.Wad.{AreParts, all_lumps, wad_bytes}
use Rattle.wad_build.specs.Errors.{blamed}
use Rattle.wad_build.specs.declared.error.BuildError.TheVariants as build
use Rattle.wad_build.proofs.LevelLemmas.{IsSizedLevel}
use Rattle.wad_build.proofs.CountedLemmas.{is_counted, views_in}
use Rattle.wad_build.proofs.ProjectLemmas.{levels_sized, unbuilt_too, one_wad, all_sound, all_buildable, holds_only}
use Rattle.wad_build.proofs.projects.build_counted.Goals as goal

pub counted_wad-requires-clause-sized : goal.counted_wad-requires-clause-sized
counted_wad-requires-clause-sized c =
    subst (λ (xs : List NamedLevel). All IsSizedLevel xs) (sym c.deref.ensures.value)
    (levels_sized (project_of c.args.maps.now).maps c.in-Ok.levels.items c.in-Ok.ensures.levels)

pub counted_wad-requires-clause-parts : goal.counted_wad-requires-clause-parts
counted_wad-requires-clause-parts c =
    subst (λ (xs : List NamedLevel). AreParts (level_parts xs)) (sym c.deref.ensures.value)
    (one_wad (project_of c.args.maps.now) c.in-Ok.levels.items empty_tables c.in-Ok.ensures.well_formed c.in-Ok.ensures.levels)

pub returns-in-Ok-counted_wad-clause-counted : goal.returns-in-Ok-counted_wad-clause-counted
returns-in-Ok-counted_wad-clause-counted c =
    let wad = c.in-Ok-counted_wad.built.bytes.items in
    let ms = (project_of c.args.maps.now).maps in
    let xs = c.in-Ok.levels.items in
    let read = subst (λ (ys : List NamedLevel). All (λ (l : NamedLevel). IsLevel wad (name_text l.name) (built_view l.level)) ys)
    c.deref.ensures.value c.in-Ok-counted_wad.ensures.levels in
    let counts = subst (λ (ys : List NamedLevel). CountsLevels (views_in ys) (length wad) c.in-Ok-counted_wad.built.counts)
    c.deref.ensures.value c.in-Ok-counted_wad.ensures.counted in
    is_counted wad ms xs c.in-Ok-counted_wad.built.counts c.in-Ok.ensures.levels read (all_sound wad ms xs c.in-Ok.ensures.levels read) counts

pub returns-in-Ok-counted_wad-clause-whole : goal.returns-in-Ok-counted_wad-clause-whole
returns-in-Ok-counted_wad-clause-whole c =
    let wad = c.in-Ok-counted_wad.built.bytes.items in
    let bytes = subst (λ (xs : List NamedLevel). wad ≡ wad_bytes (all_lumps (level_parts xs))) c.deref.ensures.value c.in-Ok-counted_wad.ensures.bytes in
    holds_only wad (project_of c.args.maps.now).maps c.in-Ok.levels.items c.in-Ok.ensures.levels bytes

pub returns-in-Ok-counted_wad-clause-buildable : goal.returns-in-Ok-counted_wad-clause-buildable
returns-in-Ok-counted_wad-clause-buildable c =
    all_buildable (project_of c.args.maps.now).maps c.in-Ok.levels.items c.in-Ok.ensures.levels

pub returns-in-Err-clause-nothing : goal.returns-in-Err-clause-nothing
returns-in-Err-clause-nothing c = λ m at empty. unbuilt_too c.in-Err.unbuilt (blamed build.NothingToBuild m.name) (c.in-Err.ensures.nothing m at empty)

pub returns-in-Ok-counted_wad-clause-nothing : goal.returns-in-Ok-counted_wad-clause-nothing
returns-in-Ok-counted_wad-clause-nothing c = λ m at empty.
    let e = c.in-Ok.ensures.nothing m at empty in
    cc
