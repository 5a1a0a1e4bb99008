use Rattle.std.proofs.Common.{arith, sym}
use Rattle.map_script.proofs.LineTexts.{begin_before}
use Rattle.map_script.proofs.script.begin_of.Goals as goal

pub returns-else-place-eq0 : goal.returns-else-place-eq0
returns-else-place-eq0 c = begin_before 0 c.args.ends.now c.args.place _ (omega (arith, c.if-place-eq0.false)) c.requires
