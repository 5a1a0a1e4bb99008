use Rattle.std.proofs.Common.{false, get_or, arith}
use Rattle.lump_textures.proofs.MarkSteps.{all_marked}
use Rattle.lump_textures.proofs.marks.mark.Goals as goal

pub returns-clause-marked : goal.returns-clause-marked
returns-clause-marked c = record {
  free = λ k from before. c.loop-x.invariant.free k from (omega (arith, c.loop-x-test.false));
  marked = λ k.
      all_marked (get_or c.args.marks.now k false) (get_or c.loop-x.marks k false) c.args.first c.loop-x.x c.args.end k c.loop-x-test.false
      (λ h. c.loop-x.auto.x-end h) (λ h. c.loop-x.invariant.apart h) (c.loop-x.invariant.marked k);
}
