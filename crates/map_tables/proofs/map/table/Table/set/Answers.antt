use Rattle.std.proofs.Common.{◌≡◌, ◌∙◌, ◌<◌, ap, length, get_or, arith}
use Rattle.std.specs.Prelude.{slice_set}
use Rattle.slab.specs.Slab.{ContainsKey}
use Rattle.std.proofs.lemmas.List.{get_or_default}
use Rattle.std.proofs.lemmas.List.Elements.{All-get_or}
use Rattle.map_tables.proofs.TableLemmas.{count_of_items, set_items, with_value_updates}
use Rattle.map_tables.proofs.map.table.Table.set.Goals as goal

pub index-key-requires : goal.index-key-requires
index-key-requires g c =
    let count = count_of_items c.self.inside.items c.self.inside.order.items c.self.invariant in
    let there = rw (← c.self.view_is) at c.requires in
    omega (arith, count, there)

pub index_mut-requires : goal.index_mut-requires
index_mut-requires g c =
    let count = count_of_items c.self.inside.items c.self.inside.order.items c.self.invariant in
    let there = rw (← c.self.view_is) at c.requires in
    let n : c.args.n < length c.self.inside.order.items = omega (arith, count, there) in
    let key : c.index-key.result.now ≡ get_or c.self.inside.order.items c.args.n 0 = c.index-key.ensures ∙ get_or_default c.self.inside.order.items c.args.n _ 0 n in
    rw key (All-get_or (ContainsKey c.self.inside.items) c.self.inside.order.items c.args.n 0 n c.self.invariant.held_each)

pub returns-clause-items : goal.returns-clause-items
returns-clause-items g c =
    let count = count_of_items c.self.inside.items c.self.inside.order.items c.self.invariant in
    let there = rw (← c.self.view_is) at c.requires in
    let n : c.args.n < length c.self.inside.order.items = omega (arith, count, there) in
    let key : c.index-key.result.now ≡ get_or c.self.inside.order.items c.args.n 0 = c.index-key.ensures ∙ get_or_default c.self.inside.order.items c.args.n _ 0 n in
    rw key
    (set_items c.self.inside.items _ c.self.inside.order.items c.args.n c.args.item n c.self.invariant
    (with_value_updates c.self.inside.items (get_or c.self.inside.order.items c.args.n 0) c.args.item
    (All-get_or
    (ContainsKey c.self.inside.items) c.self.inside.order.items c.args.n 0 n c.self.invariant.held_each))
    ∙ ap (λ v. slice_set v.items c.args.n c.args.item) c.self.view_is)
