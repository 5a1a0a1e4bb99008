use Rattle.std.proofs.Common.{refl}
use Rattle.cli_rebuild.specs.Rebuilding.{kept_line}
use Rattle.cli_rebuild.proofs.Rebuilding.{texts_more}
use Rattle.cli_rebuild.proofs.notes.write_faults.Goals as goal

pub loop-fault-preserved : goal.loop-fault-preserved
loop-fault-preserved g c =
    texts_more (kept_line c.args.name.now) c.args.faults.now c.loop-fault.fault-index _ _ (g.F.Write.contents c.args.errors.now) (g.F.Write.contents c.loop-fault.errors)
    (g.F.Write.contents c.write_fault.new.errors) c.loop-fault-test.true refl c.loop-fault.invariant c.in-Ok.ensures
