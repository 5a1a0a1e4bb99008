use Rattle.run_edit.proofs.Inspecting.{told}
use Rattle.run_edit.proofs.inspection.inspect.Goals as goal

pub returns-clause-told : goal.returns-clause-told
returns-clause-told g c =
    told c.args.wad.now c.args.name.now _ c.in_ok-fault.fault c.is_none.result (g.W.Write.contents c.args.writer.now)
    (g.W.Write.contents c.write_lengths.new.writer) (g.W.Write.contents c.write_verdict.new.writer) c.in_ok-level.ensures
    c.in_ok-fault.ensures.first c.in_ok-fault.ensures.sound c.is_none.ensures c.in_ok-write_lengths.ensures c.in_ok-write_verdict.ensures
