-- The place of the removed vertex becomes free, and no other.
use Rattle.std.proofs.Common.{◌≢◌, ◌∙◌, ◌<◌, sym, ap, length, arith}
use Rattle.std.proofs.lemmas.List.Edits.{length-remove}
use Rattle.std.proofs.lemmas.List.Quantifiers.{all_pairs_remove}
use Rattle.std.proofs.lemmas.Option.{get_or_from_slice_get}
use Rattle.map_tables.proofs.PlaceLemmas.{left_without, own_taken}
use Rattle.map_tables.proofs.map.vertex_table.VertexTable.remove.Goals as goal

pub remove-requires-2-clause-apart : goal.remove-requires-2-clause-apart
remove-requires-2-clause-apart c =
    let at : c.args.n < length c.self.inside.items.items = rw (← c.self.view_is) at c.requires.there in
    rw c.remove.ensures.items (all_pairs_remove (λ v w. v ≢ w) c.self.inside.items.items c.args.n at c.self.invariant.apart)

pub remove-requires-2-clause-taken : goal.remove-requires-2-clause-taken
remove-requires-2-clause-taken c =
    let at : c.args.n < length c.self.inside.items.items = rw (← c.self.view_is) at c.requires.there in
    let here = get_or_from_slice_get c.self.inside.items.items c.args.n c.at-gone.result c.at-gone.result c.at-gone.ensures in
    c.self.invariant.marked.taken c.at-gone.result ∙ (rw here at (own_taken c.self.inside.items.items c.args.n c.at-gone.result at))

pub remove-requires-2-clause-left : goal.remove-requires-2-clause-left
remove-requires-2-clause-left c =
    let at : c.args.n < length c.self.inside.items.items = rw (← c.self.view_is) at c.requires.there in
    let here = get_or_from_slice_get c.self.inside.items.items c.args.n c.at-gone.result c.at-gone.result c.at-gone.ensures in
    rw c.remove.ensures.items
    (left_without c.self.inside.items.items c.self.inside.places.marked c.args.n c.at-gone.result c.at-gone.result at c.self.invariant.apart c.self.invariant.marked.taken (sym here))

pub invariant_of-self : goal.invariant_of-self
invariant_of-self c =
    let at : c.args.n < length c.self.inside.items.items = rw (← c.self.view_is) at c.requires.there in
    let fewer = length-remove c.self.inside.items.items c.args.n at in
    record {
      apart = rw c.remove.ensures.items (all_pairs_remove (λ v w. v ≢ w) c.self.inside.items.items c.args.n at c.self.invariant.apart);
      marked = c.remove-2.ensures.marked;
      within = omega (arith, fewer, ap length c.remove.ensures.items, c.remove-2.ensures.room, c.self.invariant.within);
    }
