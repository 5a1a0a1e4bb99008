use Rattle.std.proofs.Common.{length, ap, arith}
use Rattle.std.proofs.lemmas.List.{length-take}
use Rattle.tree_pieces.proofs.numbered.Points.over.Goals as goal

pub push-requires : goal.push-requires
push-requires c =
    let e = ap length c.loop-place.invariant in
    let t = length-take c.loop-place.place-index c.args.places.now in
    omega (arith, e, t, c.loop-place-test.true, c.if-places-gt-ITEM_LIMIT.false)
