use Rattle.map_tables.specs.Projects.{project_of}
use Rattle.cli_requests.proofs.Made.{created_told, images_empty, made_told}
use Rattle.cli_requests.proofs.over_disk.create.Goals as goal

pub returns-in-Ok-clause-created : goal.returns-in-Ok-clause-created
returns-in-Ok-clause-created g c =
    created_told c.args.geometry.slot c.args.geometry.journal c.say.result (g.W.Write.contents c.args.writer.now) (g.W.Write.contents c.say.new.writer)
    c.in-Ok.ensures.allowed c.say.ensures.said c.say.ensures.failed

pub returns-in-Ok-clause-made : goal.returns-in-Ok-clause-made
returns-in-Ok-clause-made g c =
    let project = c.in-Ok.project in
    let made = c.in-Ok.ensures.made in
    rw c.into_disk.ensures.disk
    (made_told g.D.Disk c.args.geometry c.args.disk project.disk c.say.result
    c.say.ensures.failed
    (images_empty (g.D.Disk.may_leave project.disk) c.args.geometry project.cap project.generation (project_of project.maps) made.3 made.0 made.1
    (c.in-Ok.ensures.kept made.2)) c.in-Ok.ensures.lengths)
