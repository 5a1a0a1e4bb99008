use Rattle.map_tables.specs.Projects.{project_of}
use Rattle.map_dump.specs.Dump.{commands_from, selection_of}
use Rattle.map_dump.proofs.Written.{Writes-append, Writes-stopped}
use Rattle.map_dump.proofs.dump.write_dump.Goals as goal

pub returns-in-Ok : goal.returns-in-Ok
returns-in-Ok g c =
    let p = project_of c.args.maps.now in
    Writes-append c.write_selection.result (commands_from 0 p.maps) (selection_of p) (g.W.Write.contents c.args.writer.now)
    (g.W.Write.contents c.write_maps.new.writer) (g.W.Write.contents c.write_selection.new.writer) c.in-Ok.ensures.lines c.write_selection.ensures

pub returns-in-Err : goal.returns-in-Err
returns-in-Err g c =
    let p = project_of c.args.maps.now in
    Writes-stopped c.in-Err.error (commands_from 0 p.maps) (selection_of p)
    (g.W.Write.contents c.args.writer.now) (g.W.Write.contents c.write_maps.new.writer) c.in-Err.ensures.lines
