use Rattle.std.proofs.Common.{refl, ◌≤◌, Bool, true, false, length, get_or, arith}
use Rattle.std.proofs.lemmas.List.{length-set}
use mir.Val.{bool_byte}
use Rattle.tree_choice.proofs.BoxLemmas.{no_piece}
use Rattle.tree_choice.proofs.ClearLemmas.{place_step, place_within}
use Rattle.tree_choice.proofs.walk.note_open.Goals as goal

at_most_one : (b : Bool) → bool_byte b ≤ 1
at_most_one true = omega arith
at_most_one false = omega arith

pub loop-n-preserved : goal.loop-n-preserved
loop-n-preserved c =
    let ps = c.args.pieces.now in
    let flags = c.args.flags.now in
    let places = c.loop-n.places in
    let n = c.loop-n.n in
    let count = c.loop-n.count in
    let i = c.loop-n.invariant in
    let b = get_or flags n false in
    let t = c.loop-n-test.true in
    let f = c.requires.few in
    let j = i.few in
    let w = i.room in
    let o = at_most_one b in
    let s = length-set places count n in
    record {
      is = place_step ps flags places n count no_piece b t c.requires.same refl (omega arith) i.is;
      each = place_within (length ps) places n count b t (omega arith) i.each;
      few = omega arith;
      room = omega arith;
    }
