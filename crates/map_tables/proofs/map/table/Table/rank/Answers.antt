use Rattle.std.proofs.Common.{◌≡◌, ◌∙◌, ◌<◌, ◌==◌, sym, ap, length, arith, rules}
use Rattle.std.specs.Prelude.{position, Some}
use Rattle.std.proofs.lemmas.List.Quantifiers.{position-Some}
use Rattle.std.proofs.lemmas.List.{get_or_default}
use Rattle.map_tables.specs.Keys.{rank_of}
use Rattle.map_tables.proofs.TableLemmas.{count_of_items, rank_at, rank_missing}
use Rattle.map_tables.proofs.map.table.Table.rank.Goals as goal

pub returns-then-index-key-clause-value : goal.returns-then-index-key-clause-value
returns-then-index-key-clause-value g c =
    let at : c.index.result.now < length c.self.inside.order.items = omega arith in
    sym (rank_at c.self.inside.order.items c.index.result.now c.args.key c.self.invariant.differ at
    (sym (get_or_default c.self.inside.order.items c.index.result.now _ 0 at) ∙ sym c.index-then-rank-len.ensures
    ∙ c.if-index-key.true))
    ∙ ap (λ v. rank_of v.keys c.args.key) c.self.view_is

pub returns-in-None-clause-value : goal.returns-in-None-clause-value
returns-in-None-clause-value g c =
    let missing = rank_missing c.self.inside.order.items c.args.key (search rules) in
    let seen = ap (λ v. rank_of v.keys c.args.key) c.self.view_is in
    omega (arith, missing, seen, c.len-in-None.ensures)

pub returns-then-index-key-clause-bound : goal.returns-then-index-key-clause-bound
returns-then-index-key-clause-bound g c =
    let count = count_of_items c.self.inside.items c.self.inside.order.items c.self.invariant in
    let seen = ap (λ v. length v.items) c.self.view_is in
    omega (arith, count, seen)

pub returns-in-Some-clause-bound : goal.returns-in-Some-clause-bound
returns-in-Some-clause-bound g c =
    let count = count_of_items c.self.inside.items c.self.inside.order.items c.self.invariant in
    let seen = ap (λ v. length v.items) c.self.view_is in
    let found : position (λ k. k == c.args.key) c.self.inside.order.items ≡ Some c.in-Some.rank = search rules in
    let within = position-Some (λ k. k == c.args.key) c.self.inside.order.items c.in-Some.rank 0 found in
    omega (arith, count, seen, within.0)

pub returns-in-None-clause-bound : goal.returns-in-None-clause-bound
returns-in-None-clause-bound g c =
    let count = count_of_items c.self.inside.items c.self.inside.order.items c.self.invariant in
    let seen = ap (λ v. length v.items) c.self.view_is in
    omega (arith, count, seen, c.len-in-None.ensures)
