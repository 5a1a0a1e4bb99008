use Rattle.map_tables.specs.Projects.{project_of}
use Rattle.wad_build.proofs.ProjectLemmas.{all_buildable}
use Rattle.wad_build.proofs.WrittenLemmas.{lent_parts, lent_sized, wad_written}
use Rattle.wad_build.proofs.projects.write_all.Goals as goal

pub counted_lumps-requires-clause-sized : goal.counted_lumps-requires-clause-sized
counted_lumps-requires-clause-sized g c = lent_sized (project_of c.args.maps.now) c.in-Ok.levels.items c.deref.result.now c.in-Ok.ensures.levels c.deref.ensures.value

pub counted_lumps-requires-clause-parts : goal.counted_lumps-requires-clause-parts
counted_lumps-requires-clause-parts g c =
    lent_parts (project_of c.args.maps.now) c.in-Ok.levels.items c.deref.result.now c.in-Ok.ensures.well_formed c.in-Ok.ensures.levels c.deref.ensures.value

pub write_pwad-requires-clause-sized : goal.write_pwad-requires-clause-sized
write_pwad-requires-clause-sized g c = lent_sized (project_of c.args.maps.now) c.in-Ok.levels.items c.deref-2.result.now c.in-Ok.ensures.levels c.deref-2.ensures.value

pub write_pwad-requires-clause-parts : goal.write_pwad-requires-clause-parts
write_pwad-requires-clause-parts g c =
    lent_parts (project_of c.args.maps.now) c.in-Ok.levels.items c.deref-2.result.now c.in-Ok.ensures.well_formed c.in-Ok.ensures.levels c.deref-2.ensures.value

pub returns-in-Ok-write_pwad-clause-written : goal.returns-in-Ok-write_pwad-clause-written
returns-in-Ok-write_pwad-clause-written g c =
    wad_written (project_of c.args.maps.now) c.in-Ok.levels.items c.deref.result.now c.deref-2.result.now c.in-Ok-counted_lumps.counted.counts (g.W.Write.contents c.args.writer.now)
    (g.W.Write.contents c.write_pwad.new.writer) c.in-Ok.ensures.well_formed c.in-Ok.ensures.levels c.deref.ensures.value c.deref-2.ensures.value c.in-Ok-counted_lumps.ensures.counted
    c.in-Ok-write_pwad.ensures.bytes c.in-Ok-write_pwad.ensures.coded

pub returns-in-Ok-write_pwad-clause-buildable : goal.returns-in-Ok-write_pwad-clause-buildable
returns-in-Ok-write_pwad-clause-buildable g c = all_buildable (project_of c.args.maps.now).maps c.in-Ok.levels.items c.in-Ok.ensures.levels

pub returns-clause-refused : goal.returns-clause-refused
returns-clause-refused g c = all_buildable (project_of c.args.maps.now).maps c.in-Ok.levels.items c.in-Ok.ensures.levels
