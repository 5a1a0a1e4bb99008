-- No line uses the vertex, so each line has its ends with their new numbers.
use Rattle.std.proofs.Common.{refl}
use Rattle.map_tables.specs.MapFields.{tables_of}
use Rattle.map_tables.specs.Edits.{without_vertex}
use Rattle.map_tables.proofs.FaultLemmas.{done}
use Rattle.map_tables.proofs.KeyedLemmas.{lines_drop_vertex, none_at}
use Rattle.map_tables.proofs.VertexLemmas.{without_vertex-keeps}
use Rattle.map_tables.proofs.map.Map.drop_vertex.Goals as goal

pub invariant_of-self : goal.invariant_of-self
invariant_of-self c =
    let fine = rw (← c.self.view_is) at c.in_ok-can_drop_vertex.ensures in
    let lines =
    lines_drop_vertex c.self.inside.vertices c.remove.new.self c.self.inside.sides.keys c.args.n c.self.inside.lines.items c.remove.ensures.ranks c.self.invariant.ends (none_at (tables_of c.self.inside) c.args.n fine) in
    rw (c.remove.ensures.items, lines) (without_vertex-keeps _ c.args.n c.self.invariant fine)

pub returns-clause-edit : goal.returns-clause-edit
returns-clause-edit c =
    let fine = rw (← c.self.view_is) at c.in_ok-can_drop_vertex.ensures in
    let lines =
    lines_drop_vertex c.self.inside.vertices c.remove.new.self c.self.inside.sides.keys c.args.n c.self.inside.lines.items c.remove.ensures.ranks c.self.invariant.ends (none_at (tables_of c.self.inside) c.args.n fine) in
    rw (← c.self.view_is) (done _ (without_vertex (tables_of c.self.inside) c.args.n) _ tt tt fine (rw (c.remove.ensures.items, lines) refl) refl)
