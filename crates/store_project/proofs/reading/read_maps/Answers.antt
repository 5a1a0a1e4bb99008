use Rattle.std.proofs.Common.{Err}
use Rattle.map_tables.specs.Projects.{project_of}
use Rattle.store_slots.specs.Handles.{generation_of}
use Rattle.store_project.specs.Places.{cap_of}
use Rattle.store_project.proofs.Openings.{result_later}
use Rattle.store_project.proofs.Alone.{stands_alone}
use Rattle.store_project.proofs.reading.read_maps.Goals as goal

pub returns-in-Ok-clause-read : goal.returns-in-Ok-clause-read
returns-in-Ok-clause-read g c =
    let o = c.in-Ok.field-0-0 in (
      cap_of o.geometry,
      generation_of o.slots,
      λ file read.
          stands_alone o (project_of c.read_through.new.maps) file c.in-Ok.ensures.areas.2 (c.in-Ok.ensures.opened file (c.in-Ok.ensures.reads.1 file read)),
    )

pub returns-clause-refused : goal.returns-clause-refused
returns-clause-refused g c =
    result_later {T = Unit {0}} (g.D.Disk.reads c.in-Err.refused.disk) (g.D.Disk.reads c.args.disk) c.in-Err.ensures.reads.1 (Err c.in-Err.refused.error) c.in-Err.ensures.refused
