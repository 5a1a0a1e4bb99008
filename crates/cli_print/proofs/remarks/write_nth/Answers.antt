use Rattle.std.specs.Prelude.{slice_get}
use Rattle.cli_print.specs.Choosing.{wants_view}
use Rattle.map_tables.specs.Projects.{project_of}
use Rattle.cli_print.proofs.Linting.{none_there, remarks_told}
use Rattle.cli_print.proofs.remarks.write_nth.Goals as goal

pub returns-in-Some : goal.returns-in-Some
returns-in-Some g c =
    remarks_told (g.O.Origin.origin c.args.origin.now) (wants_view c.args.wants) c.write_map.result (slice_get (project_of c.args.maps.now).maps c.args.n) c.args.before c.in-Some.map.now.tables
    (g.W.Write.contents c.args.writer.now) (g.W.Write.contents c.write_map.new.writer) c.in-Some.ensures c.write_map.ensures

pub returns-in-None : goal.returns-in-None
returns-in-None g c = λ m at. absurd (none_there (slice_get (project_of c.args.maps.now).maps c.args.n) m c.in-None.ensures at)
