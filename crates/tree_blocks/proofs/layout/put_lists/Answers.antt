use Rattle.std.proofs.Common.{◌∙◌, ◌<◌, map, length, [], arith}
use Rattle.std.proofs.lemmas.List.{length-map, get_or-map}
use Rattle.tree_blocks.proofs.OffsetLemmas.{list_more}
use Rattle.tree_blocks.proofs.layout.put_lists.Goals as goal

pub loop-list-preserved : goal.loop-list-preserved
loop-list-preserved c =
    let lists = map (λ k. k.now) c.args.lists.now in
    let long = length-map c.args.lists.now (λ k. k.now) in
    let below : c.loop-list.list-index < length lists = omega (arith, long, c.loop-list-test.true) in
    let here = get_or-map (λ k. k.now) c.args.lists.now c.loop-list.list-index _ [] c.loop-list-test.true in
    c.in_ok-put_list.ensures.ok
    ∙ list_more c.args.bytes.now.items c.loop-list.bytes.items lists c.loop-list.list-index _ below here c.loop-list.invariant
