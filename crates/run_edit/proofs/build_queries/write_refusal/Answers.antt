use Rattle.run_edit.proofs.Telling.{no_memory, refusal_written}
use Rattle.run_edit.proofs.build_queries.write_refusal.Goals as goal

pub returns-in-OutOfMemory : goal.returns-in-OutOfMemory
returns-in-OutOfMemory g c = no_memory c.args.cause (g.W.Write.contents c.args.writer.now)

pub returns-in_default : goal.returns-in_default
returns-in_default g c =
    refusal_written c.write_outcome.result c.args.cause c.code.result (g.W.Write.contents c.args.writer.now)
    (g.W.Write.contents c.write_outcome.new.writer) c.in_default.not-OutOfMemory c.code.ensures c.write_outcome.ensures
