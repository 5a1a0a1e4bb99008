use Rattle.std.specs.Prelude.{slice_get}
use Rattle.map_tables.specs.Projects.{project_of}
use Rattle.run_edit.proofs.MapLines.{no_nth}
use Rattle.run_edit.proofs.MapLines.{nth_told}
use Rattle.run_edit.proofs.listing.write_nth.Goals as goal

pub returns-in-Some : goal.returns-in-Some
returns-in-Some g c =
    nth_told c.write_map.result (slice_get (project_of c.args.maps.now).maps c.args.number) c.args.number c.in-Some.map.now.tables
    (g.W.Write.contents c.args.writer.now) (g.W.Write.contents c.write_map.new.writer) c.in-Some.ensures c.write_map.ensures

pub returns-in-None : goal.returns-in-None
returns-in-None g c = λ m at.
    absurd (no_nth (slice_get (project_of c.args.maps.now).maps c.args.number) m c.in-None.ensures at)
