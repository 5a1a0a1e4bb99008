use Rattle.std.proofs.Common.{arith, sym}
use Rattle.std.proofs.lemmas.List.{length-take-le, take_all}
use Rattle.run_edit.proofs.editing.front.Goals as goal

pub slice_bounds-result-end : goal.slice_bounds-result-end
slice_bounds-result-end c = sym (length-take-le 257 c.args.line.now (omega (arith, c.if-line-le257.false)))

pub returns-then-line-le257 : goal.returns-then-line-le257
returns-then-line-le257 c = sym (take_all 257 c.args.line.now (omega (arith, c.if-line-le257.true)))
