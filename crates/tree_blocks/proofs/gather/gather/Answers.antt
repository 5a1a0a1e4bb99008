use Rattle.std.proofs.Common.{◌∙◌, sym, ap, map}
use Rattle.tree_blocks.specs.Layout.{noted, place_in}
use Rattle.tree_blocks.proofs.GatherLemmas.{so_far_none, so_far_more, so_far_all}
use Rattle.tree_blocks.proofs.gather.gather.Goals as goal

pub loop-n-init : goal.loop-n-init
loop-n-init c =
    so_far_none c.args.lists.now _ c.in_ok-places.places.items (ap (map (λ k. k.now)) c.new-written.ensures.empty) c.in_ok-places.ensures.items

pub loop-n-preserved : goal.loop-n-preserved
loop-n-preserved c =
    let old = map (λ k. k.now) c.loop-n.written.keys in
    let keys = c.in_ok-place.ensures.keys ∙ ap (noted old) c.numbers.ensures in
    let place = c.in_ok-place.ensures.place ∙ ap (place_in old) c.numbers.ensures in
    rw c.in_ok-push.ensures.items
    (so_far_more c.args.lists.now old _ c.loop-n.places.items c.loop-n.n c.in_ok-place.place c.index-lists-n.result c.loop-n-test.true (sym c.index-lists-n.is) keys place c.loop-n.invariant)

pub returns-clause-written : goal.returns-clause-written
returns-clause-written c = (so_far_all c.args.lists.now _ c.loop-n.places.items c.loop-n.n c.loop-n-test.false c.loop-n.invariant).0

pub returns-clause-places : goal.returns-clause-places
returns-clause-places c = (so_far_all c.args.lists.now _ c.loop-n.places.items c.loop-n.n c.loop-n-test.false c.loop-n.invariant).1
