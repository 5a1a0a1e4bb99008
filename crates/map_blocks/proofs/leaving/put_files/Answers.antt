use Rattle.std.proofs.Common.{arith}
use Rattle.map_blocks.proofs.OneOut.{none_put, one_put}
use Rattle.map_blocks.proofs.leaving.put_files.Goals as goal

pub loop-place-init : goal.loop-place-init
loop-place-init c = none_put c.args.files.now c.args.rest.now c.args.from

pub loop-place-preserved : goal.loop-place-preserved
loop-place-preserved c =
    one_put c.args.files.now c.args.rest.now c.loop-place.rest c.put.new.self c.args.from c.loop-place.place c.file-name.result.now c.loop-place.invariant c.in-Ok.ensures.ok
    c.file-name.ensures (omega arith) (omega (arith, c.requires.ends))
