use Rattle.std.proofs.Common.{◌<◌, ◌+◌, ℕ, sym, subst, refl, arith, List, slice_index_or}
use Rattle.std.proofs.lemmas.List.Elements.{All-get_or}
use Rattle.lump_records.specs.declared.records.Sub.{Sub}
use Rattle.tree_nodes.specs.Tiling.{IsTiledTo}
use Rattle.tree_nodes.proofs.TilingSteps.{room_left, one_more}
use Rattle.tree_nodes.proofs.subsectors.subs_of.Goals as goal

pub overflow_cast-size : goal.overflow_cast-size
overflow_cast-size c =
    let few = c.requires.few in
    let room = room_left c.args.counts.now c.loop-count.count-index c.loop-count.first c.loop-count.subs.items c.loop-count.invariant (omega (arith, c.loop-count-test.true)) in
    omega (arith, room, few)

pub overflow_add-first : goal.overflow_add-first
overflow_add-first c =
    let few = c.requires.few in
    let room = room_left c.args.counts.now c.loop-count.count-index c.loop-count.first c.loop-count.subs.items c.loop-count.invariant (omega (arith, c.loop-count-test.true)) in
    omega (arith, room, few)

pub loop-count-preserved : goal.loop-count-preserved
loop-count-preserved c =
    let size = slice_index_or c.args.counts.now c.loop-count.count-index 0 in
    let within = c.loop-count-test.true in
    let sub : Sub = record { count = size; first = c.loop-count.first } in
    let h = one_more c.args.counts.now c.loop-count.count-index c.loop-count.first c.loop-count.subs.items sub c.loop-count.invariant (omega (arith, within)) (All-get_or (λ (n : ℕ). 0 < n) c.args.counts.now c.loop-count.count-index 0 (omega (arith, within)) c.requires.some) c.requires.few refl refl in
    subst (λ (xs : List Sub). IsTiledTo c.args.counts.now (c.loop-count.count-index + 1) (c.loop-count.first + size) xs) (sym c.in_ok-push.ensures.items) h
