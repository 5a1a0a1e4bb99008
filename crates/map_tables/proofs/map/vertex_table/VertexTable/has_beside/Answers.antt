-- Another vertex is at the place if it is taken and isn't the vertex's own.
use Rattle.std.proofs.Common.{◌≡◌, ◌∙◌, sym, ap, not, true, false, ◌&&◌, ◌<◌, length, get_or}
use Rattle.std.proofs.lemmas.Option.{get_or_from_slice_get}
use Rattle.map_tables.specs.Faults.{is_taken_beside, is_place, is_taken}
use Rattle.map_tables.proofs.PlaceLemmas.{beside_known}
use Rattle.map_tables.proofs.map.vertex_table.VertexTable.has_beside.Goals as goal

pub returns-then-ne : goal.returns-then-ne
returns-then-ne c =
    let at : c.args.n < length c.self.inside.items.items = rw (← c.self.view_is) at c.requires in
    let here : c.at.result ≡ get_or c.self.inside.items.items c.args.n c.at.result = sym (get_or_from_slice_get c.self.inside.items.items c.args.n c.at.result c.at.result c.at.ensures) in
    let own : not (is_place c.args.place c.at.result) ≡ true = sym c.ne.ensures ∙ c.if-ne.true in
    c.has.ensures
    ∙ sym (beside_known c.self.inside.items.items c.self.inside.places.marked c.args.n c.at.result c.at.result c.args.place at c.self.invariant.apart c.self.invariant.marked.taken here
    ∙ ap (λ b. b && is_taken c.self.inside.places.marked c.args.place) own)
    ∙ ap (λ v. is_taken_beside v.items c.args.n c.args.place) c.self.view_is

pub returns-else-ne : goal.returns-else-ne
returns-else-ne c =
    let at : c.args.n < length c.self.inside.items.items = rw (← c.self.view_is) at c.requires in
    let here : c.at.result ≡ get_or c.self.inside.items.items c.args.n c.at.result = sym (get_or_from_slice_get c.self.inside.items.items c.args.n c.at.result c.at.result c.at.ensures) in
    let own : not (is_place c.args.place c.at.result) ≡ false = sym c.ne.ensures ∙ c.if-ne.false in
    c.if-ne.false
    ∙ sym (beside_known c.self.inside.items.items c.self.inside.places.marked c.args.n c.at.result c.at.result c.args.place at c.self.invariant.apart c.self.invariant.marked.taken here
    ∙ ap (λ b. b && is_taken c.self.inside.places.marked c.args.place) own)
    ∙ ap (λ v. is_taken_beside v.items c.args.n c.args.place) c.self.view_is
