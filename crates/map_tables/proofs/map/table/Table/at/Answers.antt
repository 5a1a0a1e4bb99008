-- The slab holds each key of the order.
use Rattle.std.proofs.Common.{◌≡◌, ◌∙◌, ◌<◌, sym, ap, length, get_or, arith}
use Rattle.std.specs.Prelude.{slice_get}
use Rattle.slab.specs.Slab.{ContainsKey, get as key_value}
use Rattle.std.proofs.lemmas.List.{get_or_default}
use Rattle.std.proofs.lemmas.List.Elements.{All-get_or}
use Rattle.map_tables.proofs.TableLemmas.{count_of_items}
use Rattle.map_tables.proofs.KeyLemmas.{given_at}
use Rattle.map_tables.proofs.map.table.Table.at.Goals as goal

pub index-requires : goal.index-requires
index-requires g c =
    let count = count_of_items c.self.inside.items c.self.inside.order.items c.self.invariant in
    let there = rw (← c.self.view_is) at c.requires in
    omega (arith, count, there)

pub index-requires-2 : goal.index-requires-2
index-requires-2 g c =
    let count = count_of_items c.self.inside.items c.self.inside.order.items c.self.invariant in
    let there = rw (← c.self.view_is) at c.requires in
    let n : c.args.n < length c.self.inside.order.items = omega (arith, count, there) in
    let key : c.index.result.now ≡ get_or c.self.inside.order.items c.args.n 0 = c.index.ensures ∙ get_or_default c.self.inside.order.items c.args.n _ 0 n in
    rw key (All-get_or (ContainsKey c.self.inside.items) c.self.inside.order.items c.args.n 0 n c.self.invariant.held_each)

pub returns : goal.returns
returns g c =
    let count = count_of_items c.self.inside.items c.self.inside.order.items c.self.invariant in
    let there = rw (← c.self.view_is) at c.requires in
    let n : c.args.n < length c.self.inside.order.items = omega (arith, count, there) in
    let key : c.index.result.now ≡ get_or c.self.inside.order.items c.args.n 0 = c.index.ensures ∙ get_or_default c.self.inside.order.items c.args.n _ 0 n in
    let here = given_at (key_value c.self.inside.items) c.self.inside.order.items c.args.n 0 c.self.invariant.held_each n in
    sym (ap (λ v. slice_get v.items c.args.n) c.self.view_is) ∙ here ∙ sym (ap (key_value c.self.inside.items) key) ∙ c.index-2.ensures
