use Rattle.std.proofs.Common.{refl, sym, ◌+◌, false, take, get_or, arith}
use Rattle.std.proofs.lemmas.List.{length-set, append-nil}
use Rattle.tree_choice.proofs.ClearBlocks.{noted_step, at_most_one}
use Rattle.tree_choice.proofs.sorting.note_open_blocks.Goals as goal

pub loop-n-init : goal.loop-n-init
loop-n-init c = record { is = sym (append-nil (take c.args.count c.args.noted.now)); few = omega arith; room = refl }

pub loop-n-preserved : goal.loop-n-preserved
loop-n-preserved c =
    let n = c.loop-n.n in
    let next = c.loop-n.next in
    let noted = c.loop-n.noted in
    let flags = c.args.flags.now in
    let i = c.loop-n.invariant in
    let t = c.loop-n-test.true in
    let f = c.requires.same in
    let room = c.requires.room in
    let few = i.few in
    let same = i.room in
    let o = at_most_one (get_or flags n false) in
    let s = length-set noted next (c.args.from + n) in
    record {
      is = noted_step (take c.args.count c.args.noted.now) c.args.from n next flags noted (get_or flags n false) (omega arith) refl (omega arith) i.is;
      few = omega arith;
      room = omega arith;
    }
