use Rattle.map_plane.specs.Found.{stands_at}
use Rattle.map_plane.specs.Meeting.{is_at, is_on}
use Rattle.map_plane.specs.Places.{placed_lines}
use Rattle.map_script.proofs.Leasts.{least_is}
use Rattle.map_script.proofs.reference.number_at_place.Goals as goal

pub returns-in-Vertex : goal.returns-in-Vertex
returns-in-Vertex c = rw c.in-Vertex.is (least_is (is_at c.args.place) c.args.map.now.tables.vertices c.vertex_at.result c.vertex_at.ensures)

pub returns-in-Line : goal.returns-in-Line
returns-in-Line c = rw c.in-Line.is (least_is (λ l. is_on l c.args.place) (placed_lines c.args.map.now.tables) c.line_at.result c.line_at.ensures)

pub returns-in-Thing : goal.returns-in-Thing
returns-in-Thing c = rw c.in-Thing.is (least_is (stands_at c.args.place) c.args.map.now.tables.things c.thing_at.result c.thing_at.ensures)
