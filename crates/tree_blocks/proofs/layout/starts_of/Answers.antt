use Rattle.std.proofs.Common.{◌<◌, ◌≤◌, map, length, [], arith}
use Rattle.std.proofs.lemmas.List.{length-map, get_or-map}
use Rattle.tree_blocks.proofs.OffsetLemmas.{starts_none, starts_more, starts_large, starts_all}
use Rattle.tree_blocks.proofs.layout.starts_of.Goals as goal

pub loop-list-init : goal.loop-list-init
loop-list-init c = rw c.in_ok-starts.ensures.items (starts_none (map (λ k. k.now) c.args.lists.now) c.args.first)

pub loop-list-preserved : goal.loop-list-preserved
loop-list-preserved c =
    let lists = map (λ k. k.now) c.args.lists.now in
    let long = length-map c.args.lists.now (λ k. k.now) in
    let below : c.loop-list.list-index < length lists = omega (arith, long, c.loop-list-test.true) in
    let here = get_or-map (λ k. k.now) c.args.lists.now c.loop-list.list-index _ [] c.loop-list-test.true in
    rw c.in_ok-push.ensures.items
    (starts_more lists c.args.first c.loop-list.list-index c.loop-list.at c.loop-list.starts.items _ below here c.if-at-gt-GREATEST_OFFSET.false c.loop-list.invariant)

pub returns-then-at-gt-GREATEST_OFFSET-clause-too_large : goal.returns-then-at-gt-GREATEST_OFFSET-clause-too_large
returns-then-at-gt-GREATEST_OFFSET-clause-too_large c =
    let lists = map (λ k. k.now) c.args.lists.now in
    let long = length-map c.args.lists.now (λ k. k.now) in
    let below : c.loop-list.list-index < length lists = omega (arith, long, c.loop-list-test.true) in
    λ e a. starts_large lists c.args.first c.loop-list.list-index c.loop-list.at c.loop-list.starts.items below c.if-at-gt-GREATEST_OFFSET.true c.loop-list.invariant a

pub returns-clause-ok : goal.returns-clause-ok
returns-clause-ok c =
    let lists = map (λ k. k.now) c.args.lists.now in
    let long = length-map c.args.lists.now (λ k. k.now) in
    let whole : length lists ≤ c.loop-list.list-index = omega (arith, long, c.loop-list-test.false) in
    (starts_all lists c.args.first c.loop-list.list-index c.loop-list.at c.loop-list.starts.items whole c.loop-list.invariant).0

pub returns-clause-fit : goal.returns-clause-fit
returns-clause-fit c =
    let lists = map (λ k. k.now) c.args.lists.now in
    let long = length-map c.args.lists.now (λ k. k.now) in
    let whole : length lists ≤ c.loop-list.list-index = omega (arith, long, c.loop-list-test.false) in
    (starts_all lists c.args.first c.loop-list.list-index c.loop-list.at c.loop-list.starts.items whole c.loop-list.invariant).1
