use Rattle.std.proofs.Common.{arith}
use Rattle.map_script.specs.Views.{seen}
use Rattle.map_blocks.proofs.OneOut.{none_put, one_put}
use Rattle.map_blocks.proofs.leaving.put_lines.Goals as goal

pub loop-place-init : goal.loop-place-init
loop-place-init c = none_put c.args.lines.now c.args.rest.now c.args.from

pub loop-place-preserved : goal.loop-place-preserved
loop-place-preserved c =
    one_put c.args.lines.now c.args.rest.now c.loop-place.rest c.put.new.self c.args.from c.loop-place.place (seen c.line-line.result) c.loop-place.invariant c.in-Ok.ensures.ok
    c.line-line.ensures (omega arith) (omega (arith, c.requires.ends))
