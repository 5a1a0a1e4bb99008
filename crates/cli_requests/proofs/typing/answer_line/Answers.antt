use Rattle.run_edit.proofs.Going.{Appends-keeps}
use Rattle.cli_requests.proofs.typing.answer_line.Goals as goal

pub returns : goal.returns
returns g c = λ whole is.
    let told = c.in-Ok.ensures whole is in (
      told.0,
      told.1,
      Appends-keeps (g.W.Write.contents c.args.writer.now) (g.W.Write.contents c.reply.new.writer) (g.W.Write.contents c.flush.new.writer) told.0 told.2.0
          c.in-Ok-flush.ensures,
    )

pub returns-in-Err-flush : goal.returns-in-Err-flush
returns-in-Err-flush g c = λ whole is. let told = c.in-Ok.ensures whole is in (told.0, told.1, c.in-Err-flush.ensures)

pub returns-in-Err : goal.returns-in-Err
returns-in-Err g c = λ whole is. c.in-Err.ensures whole is
