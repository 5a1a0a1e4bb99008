-- The vertex is at a free place, so the map stays well-formed. The lines keep their ends.
use Rattle.std.proofs.Common.{◌≡◌, ◌∙◌, refl, ap, rules}
use Rattle.map_tables.specs.MapFields.{tables_of}
use Rattle.map_tables.specs.Edits.{with_vertex}
use Rattle.map_tables.proofs.FaultLemmas.{done}
use Rattle.map_tables.proofs.KeyedLemmas.{lines_push_vertex}
use Rattle.map_tables.proofs.VertexLemmas.{with_vertex-keeps}
use Rattle.map_tables.proofs.map.Map.add_vertex.Goals as goal

pub invariant_of-self-2 : goal.invariant_of-self-2
invariant_of-self-2 c =
    let fine = rw (← c.self.view_is) at c.in_ok-can_add_vertex.ensures in
    let lines = lines_push_vertex c.self.inside.vertices c.push.new.self c.self.inside.sides.keys c.self.inside.lines.items c.in_ok-push.ensures.ranks c.self.invariant.ends in
    rw (c.in_ok-push.ensures.items, lines) (with_vertex-keeps _ c.args.vertex c.self.invariant c.requires fine)

pub returns-clause-edit : goal.returns-clause-edit
returns-clause-edit c =
    let fine = rw (← c.self.view_is) at c.in_ok-can_add_vertex.ensures in
    let lines = lines_push_vertex c.self.inside.vertices c.push.new.self c.self.inside.sides.keys c.self.inside.lines.items c.in_ok-push.ensures.ranks c.self.invariant.ends in
    rw (← c.self.view_is) (done _ (with_vertex (tables_of c.self.inside) c.args.vertex) _ _ _ fine (rw (c.in_ok-push.ensures.items, lines) refl) c.len-number.ensures)

pub invariant_of-self : goal.invariant_of-self
invariant_of-self c =
    let lines = lines_push_vertex c.self.inside.vertices c.push.new.self c.self.inside.sides.keys c.self.inside.lines.items c.in_err-push.ensures.ranks c.self.invariant.ends in
    rw (c.in_err-push.ensures.items, lines) c.self.invariant

pub returns-in_err-push-clause-edit : goal.returns-in_err-push-clause-edit
returns-in_err-push-clause-edit c =
    let lines = lines_push_vertex c.self.inside.vertices c.push.new.self c.self.inside.sides.keys c.self.inside.lines.items c.in_err-push.ensures.ranks c.self.invariant.ends in
    let same : tables_of (record c.self.inside { vertices = c.push.new.self }) ≡ c.args.self.now.tables = (rw (c.in_err-push.ensures.items, lines) refl) ∙ ap (λ v. v.tables) c.self.view_is in
    search (rules, same)
