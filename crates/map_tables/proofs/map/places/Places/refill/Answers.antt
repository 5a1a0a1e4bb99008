-- The next vertex has a place of its own.
use Rattle.std.proofs.Common.{◌∙◌, length, ◌+◌, ◌<◌, arith}
use Rattle.std.proofs.lemmas.List.{length-take}
use Rattle.std.proofs.lemmas.Option.{get_or_from_slice_get}
use Rattle.map_tables.proofs.PlaceLemmas.{next_free, taken_step}
use Rattle.map_tables.proofs.map.places.Places.refill.Goals as goal

pub insert-requires-clause-free : goal.insert-requires-clause-free
insert-requires-clause-free c =
    let at : c.loop-n.n < length c.args.vertices.now.items = omega arith in
    let here = get_or_from_slice_get c.args.vertices.now.items c.loop-n.n c.at.result c.at.result c.at.ensures in
    c.loop-n.invariant.0.taken _ ∙ (rw here at (next_free c.args.vertices.now.items c.loop-n.n c.at.result at c.requires.apart))

pub loop-n-preserved : goal.loop-n-preserved
loop-n-preserved c =
    let at : c.loop-n.n < length c.args.vertices.now.items = omega arith in
    let here = get_or_from_slice_get c.args.vertices.now.items c.loop-n.n c.at.result c.at.result c.at.ensures in
    let so_far = length-take c.loop-n.n c.args.vertices.now.items in
    let more = length-take (c.loop-n.n + 1) c.args.vertices.now.items in (
      record {
        taken = λ v. c.insert.ensures.taken v ∙ (rw here at (taken_step c.loop-n.self.marked c.args.vertices.now.items c.loop-n.n c.at.result v at (c.loop-n.invariant.0.taken v)));
        count = omega (arith, so_far, more, at, c.insert.ensures.count, c.loop-n.invariant.0.count);
      },
      c.insert.ensures.room ∙ c.loop-n.invariant.1,
    )
