use Rattle.std.specs.Prelude.{slice_get}
use Rattle.map_tables.specs.Projects.{project_of}
use Rattle.map_dump.proofs.Written.{map_told, nothing_there, nth_named}
use Rattle.map_dump.proofs.dump.write_nth.Goals as goal

pub write_map-requires : goal.write_map-requires
write_map-requires g c = nth_named (project_of c.args.maps.now) c.args.n c.in-Some.map.now.tables c.requires c.in-Some.ensures

pub returns-in-Some : goal.returns-in-Some
returns-in-Some g c =
    map_told c.write_map.result (slice_get (project_of c.args.maps.now).maps c.args.n) c.args.n c.in-Some.map.now.tables
    (g.W.Write.contents c.args.writer.now) (g.W.Write.contents c.write_map.new.writer) c.in-Some.ensures c.write_map.ensures

pub returns-in-None : goal.returns-in-None
returns-in-None g c = λ m at. absurd (nothing_there (slice_get (project_of c.args.maps.now).maps c.args.n) m c.in-None.ensures at)
