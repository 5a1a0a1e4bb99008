-- The vertex's old place becomes free, and its new one is taken.
use Rattle.std.proofs.Common.{◌≡◌, ◌∙◌, ◌<◌, false, sym, ap, length, get_or, arith}
use Rattle.std.proofs.lemmas.Option.{get_or_from_slice_get}
use Rattle.std.proofs.lemmas.List.{length-set}
use Rattle.map_tables.specs.Faults.{is_taken_beside}
use Rattle.map_tables.proofs.PlaceLemmas.{left_with, beside_known, apart_set, own_taken}
use Rattle.map_tables.proofs.map.vertex_table.VertexTable.set.Goals as goal

pub replace-requires-clause-apart : goal.replace-requires-clause-apart
replace-requires-clause-apart c =
    let at : c.args.n < length c.self.inside.items.items = rw (← c.self.view_is) at c.requires.there in
    let here : c.at-from.result ≡ get_or c.self.inside.items.items c.args.n c.at-from.result =
    sym (get_or_from_slice_get c.self.inside.items.items c.args.n c.at-from.result c.at-from.result c.at-from.ensures) in
    let free : is_taken_beside c.self.inside.items.items c.args.n c.args.place ≡ false = rw (← c.self.view_is) at c.requires.free in
    rw c.set.ensures.items (apart_set c.self.inside.items.items c.args.n c.args.place at c.self.invariant.apart free)

pub replace-requires-clause-free : goal.replace-requires-clause-free
replace-requires-clause-free c =
    let at : c.args.n < length c.self.inside.items.items = rw (← c.self.view_is) at c.requires.there in
    let here : c.at-from.result ≡ get_or c.self.inside.items.items c.args.n c.at-from.result =
    sym (get_or_from_slice_get c.self.inside.items.items c.args.n c.at-from.result c.at-from.result c.at-from.ensures) in
    let free : is_taken_beside c.self.inside.items.items c.args.n c.args.place ≡ false = rw (← c.self.view_is) at c.requires.free in
    sym (beside_known c.self.inside.items.items c.self.inside.places.marked c.args.n c.at-from.result c.at-from.result c.args.place at c.self.invariant.apart c.self.invariant.marked.taken here)
    ∙ free

pub replace-requires-clause-left : goal.replace-requires-clause-left
replace-requires-clause-left c =
    let at : c.args.n < length c.self.inside.items.items = rw (← c.self.view_is) at c.requires.there in
    let here : c.at-from.result ≡ get_or c.self.inside.items.items c.args.n c.at-from.result =
    sym (get_or_from_slice_get c.self.inside.items.items c.args.n c.at-from.result c.at-from.result c.at-from.ensures) in
    rw c.set.ensures.items
    (left_with c.self.inside.items.items c.self.inside.places.marked c.args.n c.at-from.result c.at-from.result c.args.place at c.self.invariant.apart c.self.invariant.marked.taken here)

pub invariant_of-self : goal.invariant_of-self
invariant_of-self c =
    let at : c.args.n < length c.self.inside.items.items = rw (← c.self.view_is) at c.requires.there in
    let here : c.at-from.result ≡ get_or c.self.inside.items.items c.args.n c.at-from.result =
    sym (get_or_from_slice_get c.self.inside.items.items c.args.n c.at-from.result c.at-from.result c.at-from.ensures) in
    let free : is_taken_beside c.self.inside.items.items c.args.n c.args.place ≡ false = rw (← c.self.view_is) at c.requires.free in
    let as_many = length-set c.self.inside.items.items c.args.n c.args.place in
    record {
      apart = rw c.set.ensures.items (apart_set c.self.inside.items.items c.args.n c.args.place at c.self.invariant.apart free);
      marked = c.replace.ensures.marked;
      within = omega (arith, as_many, ap length c.set.ensures.items, c.replace.ensures.room, c.self.invariant.within);
    }

pub replace-requires-clause-taken : goal.replace-requires-clause-taken
replace-requires-clause-taken c =
    let at : c.args.n < length c.self.inside.items.items = rw (← c.self.view_is) at c.requires.there in
    let here = get_or_from_slice_get c.self.inside.items.items c.args.n c.at-from.result c.at-from.result c.at-from.ensures in
    c.self.invariant.marked.taken c.at-from.result ∙ (rw here at (own_taken c.self.inside.items.items c.args.n c.at-from.result at))
