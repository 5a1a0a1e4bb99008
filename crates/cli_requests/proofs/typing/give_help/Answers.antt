use Rattle.std.proofs.Common.{◌≡◌}
use Rattle.run_edit.specs.declared.error.EditorError.TheVariants.{WriterFailed}
use Rattle.cli_requests.proofs.TypedLines.{then_kept}
use Rattle.cli_requests.proofs.typing.give_help.Goals as goal

pub returns-in-Ok : goal.returns-in-Ok
returns-in-Ok g c =
    let wrote = c.in-Ok.ensures in (
      wrote.0,
      then_kept c.flush.result (λ e. e ≡ WriterFailed) (g.W.Write.contents c.args.writer.now) (g.W.Write.contents c.write_help.new.writer)
          (g.W.Write.contents c.flush.new.writer) wrote.0 wrote.1 c.flush.ensures,
    )

pub returns-in-Err : goal.returns-in-Err
returns-in-Err g c = c.in-Err.ensures
