-- The vertex moves to a place where no other is, and no line becomes too long, so the map stays well-formed.
use Rattle.std.proofs.Common.{refl}
use Rattle.map_tables.specs.MapFields.{tables_of}
use Rattle.map_tables.specs.Edits.{with_vertex_at}
use Rattle.map_tables.proofs.FaultLemmas.{done}
use Rattle.map_tables.proofs.VertexLemmas.{with_vertex_at-keeps}
use Rattle.map_tables.proofs.map.Map.set_vertex.Goals as goal

pub invariant_of-self : goal.invariant_of-self
invariant_of-self c =
    let fine = rw (← c.self.view_is) at c.in_ok-can_set_vertex.ensures in
    rw (c.set.ensures.items, c.set.ensures.keys) (with_vertex_at-keeps _ c.args.n c.args.vertex c.self.invariant c.requires fine)

pub returns-clause-edit : goal.returns-clause-edit
returns-clause-edit c =
    let fine = rw (← c.self.view_is) at c.in_ok-can_set_vertex.ensures in
    rw (← c.self.view_is) (done _ (with_vertex_at (tables_of c.self.inside) c.args.n c.args.vertex) _ tt tt fine (rw (c.set.ensures.items, c.set.ensures.keys) refl) refl)
