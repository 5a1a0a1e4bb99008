use Rattle.cli_print.specs.Choosing.{wants_view}
use Rattle.map_tables.specs.Projects.{project_of}
use Rattle.cli_print.specs.Linting.{lint_of}
use Rattle.cli_print.proofs.Linting.{total_told}
use Rattle.cli_print.proofs.remarks.tell_remarks.Goals as goal

pub returns-in-Ok-clause-told : goal.returns-in-Ok-clause-told
returns-in-Ok-clause-told g c =
    total_told (lint_of (g.O.Origin.origin c.args.origin.now) (wants_view c.args.wants) (project_of c.args.maps.now).maps) c.in_ok-count.count c.status_after.result (g.W.Write.contents c.args.writer.now) (g.W.Write.contents c.write_maps.new.writer)
    (g.W.Write.contents c.write_total.new.writer) (g.W.Write.contents c.flush.new.self) c.status_after.ensures.status
    c.in_ok-count.ensures c.in_ok-write_total.ensures c.in-Ok.ensures.bytes
