use Rattle.std.proofs.Common.{◌≡◌, ◌≢◌, ◌∙◌, ◌<◌, ap, length, get_or, arith}
use Rattle.std.specs.Prelude.{remove, None}
use Rattle.slab.specs.Slab.{Updates}
use Rattle.map_tables.specs.Keys.{rank_of}
use Rattle.map_tables.specs.Edits.{lowered}
use Rattle.std.proofs.lemmas.List.{get_or_default}
use Rattle.map_tables.proofs.TableLemmas.{count_of_items, remove_items, remove_keeps, rank_remove}
use Rattle.map_tables.proofs.map.table.Table.remove.Goals as goal

pub remove-key-requires : goal.remove-key-requires
remove-key-requires g c =
    let count = count_of_items c.self.inside.items c.self.inside.order.items c.self.invariant in
    let there = rw (← c.self.view_is) at c.requires.there in
    omega (arith, count, there)

pub invariant_of-self : goal.invariant_of-self
invariant_of-self g c =
    let count = count_of_items c.self.inside.items c.self.inside.order.items c.self.invariant in
    let there = rw (← c.self.view_is) at c.requires.there in
    let n : c.args.n < length c.self.inside.order.items = omega (arith, count, there) in
    let key : c.remove-key.result ≡ get_or c.self.inside.order.items c.args.n 0 = c.remove-key.ensures.value ∙ get_or_default c.self.inside.order.items c.args.n _ 0 n in
    let u : Updates c.self.inside.items c.remove.new.self (get_or c.self.inside.order.items c.args.n 0) None = rw (← key) c.remove.ensures.updates in
    rw c.remove-key.ensures.items (remove_keeps c.self.inside.items c.remove.new.self c.self.inside.order.items c.args.n n c.self.invariant u c.remove.ensures.len)

pub returns-clause-items : goal.returns-clause-items
returns-clause-items g c =
    let count = count_of_items c.self.inside.items c.self.inside.order.items c.self.invariant in
    let there = rw (← c.self.view_is) at c.requires.there in
    let n : c.args.n < length c.self.inside.order.items = omega (arith, count, there) in
    let key : c.remove-key.result ≡ get_or c.self.inside.order.items c.args.n 0 = c.remove-key.ensures.value ∙ get_or_default c.self.inside.order.items c.args.n _ 0 n in
    let u : Updates c.self.inside.items c.remove.new.self (get_or c.self.inside.order.items c.args.n 0) None = rw (← key) c.remove.ensures.updates in
    rw c.remove-key.ensures.items (remove_items c.self.inside.items c.remove.new.self c.self.inside.order.items c.args.n n c.self.invariant u ∙ ap (λ v. remove v.items c.args.n) c.self.view_is)

pub returns-clause-ranks : goal.returns-clause-ranks
returns-clause-ranks g c = λ key held other.
    let count = count_of_items c.self.inside.items c.self.inside.order.items c.self.invariant in
    let there = rw (← c.self.view_is) at c.requires.there in
    let n : c.args.n < length c.self.inside.order.items = omega (arith, count, there) in
    let seen : rank_of c.self.inside.order.items key ≡ rank_of c.args.self.now.keys key = ap (λ v. rank_of v.keys key) c.self.view_is in
    let many = ap (λ v. length v.items) c.self.view_is in
    let within : rank_of c.self.inside.order.items key < length c.self.inside.order.items = omega (arith, count, many, seen, held) in
    let apart : rank_of c.self.inside.order.items key ≢ c.args.n = λ e. other (omega (arith, seen, e)) in
    rw c.remove-key.ensures.items (rank_remove c.self.inside.order.items c.args.n key n c.self.invariant.differ within apart ∙ ap (lowered c.args.n) seen)

pub returns-clause-count : goal.returns-clause-count
returns-clause-count g c =
    let count = count_of_items c.self.inside.items c.self.inside.order.items c.self.invariant in
    let many = ap (λ v. length v.items) c.self.view_is in
    let keys = ap (λ v. length v.keys) c.self.view_is in
    omega (arith, count, many, keys)
