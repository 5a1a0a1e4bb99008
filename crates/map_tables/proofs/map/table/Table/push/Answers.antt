use Rattle.std.proofs.Common.{◌≡◌, ◌∙◌, ◌<◌, ◌++◌, ◌∷◌, [], ap, length, arith}
use Rattle.map_tables.specs.Keys.{rank_of}
use Rattle.map_tables.proofs.TableLemmas.{count_of_items, push_items, push_keeps, rank_push}
use Rattle.map_tables.proofs.map.table.Table.push.Goals as goal

pub overflow_cast-rank : goal.overflow_cast-rank
overflow_cast-rank g c =
    let count = count_of_items c.self.inside.items c.self.inside.order.items c.self.invariant in
    let seen = ap (λ v. length v.items) c.self.view_is in
    let same = ap length c.in_ok-reserve.ensures.items in
    omega (arith, count, seen, same, c.requires, c.len-rank.ensures)

pub invariant_of-self : goal.invariant_of-self
invariant_of-self g c =
    rw c.push_reserved.ensures.items
    (push_keeps c.self.inside.items c.insert_reserved-key.new.self c.self.inside.order.items c.insert_reserved-key.result c.args.item c.self.invariant c.insert_reserved-key.ensures.was_vacant c.insert_reserved-key.ensures.updates c.insert_reserved-key.ensures.len)

pub returns-clause-items : goal.returns-clause-items
returns-clause-items g c =
    let seen = ap (λ v. v.items ++ c.args.item ∷ []) c.self.view_is in
    let same = ap (λ vs. vs ++ c.args.item ∷ []) c.in_ok-reserve.ensures.items in
    rw c.push_reserved.ensures.items
    (push_items c.self.inside.items c.insert_reserved-key.new.self c.self.inside.order.items c.insert_reserved-key.result c.args.item c.self.invariant c.insert_reserved-key.ensures.was_vacant c.insert_reserved-key.ensures.updates ∙ seen ∙ same)

pub returns-clause-ranks : goal.returns-clause-ranks
returns-clause-ranks g c = λ key held.
    let count = count_of_items c.self.inside.items c.self.inside.order.items c.self.invariant in
    let seen : rank_of c.self.inside.order.items key ≡ rank_of c.args.self.now.keys key =
    ap (λ v. rank_of v.keys key) c.self.view_is ∙ ap (λ ks. rank_of ks key) c.in_ok-reserve.ensures.keys in
    let many = ap (λ v. length v.items) c.self.view_is ∙ ap length c.in_ok-reserve.ensures.items in
    let within : rank_of c.self.inside.order.items key < length c.self.inside.order.items = omega (arith, count, many, seen, held) in
    rw c.push_reserved.ensures.items (rank_push c.self.inside.order.items c.insert_reserved-key.result key within ∙ seen)

pub returns-clause-count : goal.returns-clause-count
returns-clause-count g c =
    let count = count_of_items c.self.inside.items c.self.inside.order.items c.self.invariant in
    let many = ap (λ v. length v.items) c.self.view_is ∙ ap length c.in_ok-reserve.ensures.items in
    let keys = ap (λ v. length v.keys) c.self.view_is ∙ ap length c.in_ok-reserve.ensures.keys in
    omega (arith, count, many, keys)
