-- The keys differ, so the n-th has the rank n, and no other.
use Rattle.std.proofs.Common.{◌∙◌, ◌<◌, ◌==◌, sym, ap, length, arith}
use Rattle.std.proofs.lemmas.List.{get_or_default}
use Rattle.map_tables.specs.Keys.{rank_of}
use Rattle.map_tables.proofs.TableLemmas.{count_of_items, rank_at, same_rank}
use Rattle.map_tables.proofs.map.table.Table.key_at.Goals as goal

pub index-requires : goal.index-requires
index-requires g c =
    let count = count_of_items c.self.inside.items c.self.inside.order.items c.self.invariant in
    let there = rw (← c.self.view_is) at c.requires in
    omega (arith, count, there)

pub returns-clause-rank : goal.returns-clause-rank
returns-clause-rank g c =
    let count = count_of_items c.self.inside.items c.self.inside.order.items c.self.invariant in
    let there = rw (← c.self.view_is) at c.requires in
    let n : c.args.n < length c.self.inside.order.items = omega (arith, count, there) in
    sym (ap (λ v. rank_of v.keys c.index.result.now) c.self.view_is)
    ∙ rank_at c.self.inside.order.items c.args.n c.index.result.now c.self.invariant.differ n (sym (c.index.ensures ∙ get_or_default c.self.inside.order.items c.args.n _ 0 n))

pub returns-clause-only : goal.returns-clause-only
returns-clause-only g c = λ key.
    let count = count_of_items c.self.inside.items c.self.inside.order.items c.self.invariant in
    let there = rw (← c.self.view_is) at c.requires in
    let n : c.args.n < length c.self.inside.order.items = omega (arith, count, there) in
    sym (ap (λ v. rank_of v.keys key == c.args.n) c.self.view_is)
    ∙ same_rank c.self.inside.order.items c.args.n c.index.result.now key c.self.invariant.differ n (sym (c.index.ensures ∙ get_or_default c.self.inside.order.items c.args.n _ 0 n))
