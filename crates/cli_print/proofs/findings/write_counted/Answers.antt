use Rattle.std.proofs.Common.{◌≡◌}
use Rattle.run_edit.specs.Texts.{total_text}
use Rattle.run_edit.specs.declared.error.EditorError.TheVariants.{WriterFailed}
use Rattle.run_edit.proofs.Going.{Appends-then}
use Rattle.cli_print.proofs.findings.write_counted.Goals as goal

pub returns-in-Ok : goal.returns-in-Ok
returns-in-Ok g c =
    Appends-then c.write_total.result (λ e. e ≡ WriterFailed) (g.W.Write.contents c.args.writer.now) (g.W.Write.contents c.write_all.new.self)
    (g.W.Write.contents c.write_total.new.writer) c.args.lines.now (total_text c.args.count) c.in-Ok.ensures.bytes c.write_total.ensures
