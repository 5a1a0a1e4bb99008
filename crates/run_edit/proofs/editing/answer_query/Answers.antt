use Rattle.std.proofs.Common.{◌≡◌, ◌∙◌, ap, inl, inr, refl, sym}
use Rattle.run_edit.specs.Texts.{refused_text}
use Rattle.run_edit.specs.declared.error.EditorError.TheVariants.{WriterFailed}
use Rattle.run_edit.proofs.EditingLines.{query_told, query_untold}
use Rattle.run_edit.proofs.Going.{Appends-kept}
use Rattle.run_edit.proofs.editing.answer_query.Goals as goal

pub returns-then-must_reopen : goal.returns-then-must_reopen
returns-then-must_reopen g c = (
  refused_text c.code.result,
  inl (inl (sym c.must_reopen.ensures.reopen ∙ c.if-must_reopen.true, ap refused_text c.code.ensures)),
  c.write_outcome.ensures,
)

pub returns-in-Ok : goal.returns-in-Ok
returns-in-Ok g c = (
  c.in-Ok.ensures.0,
  query_told c.args.project.now c.maps.result.now c.args.query c.in-Ok.ensures.0 c.maps.ensures
      (sym c.must_reopen.ensures.reopen ∙ c.if-must_reopen.false) c.in-Ok.ensures.1,
  c.in-Ok.ensures.2,
)

pub returns-in-Err-OutOfMemory : goal.returns-in-Err-OutOfMemory
returns-in-Err-OutOfMemory g c =
    let text = refused_text c.code-in-Err-OutOfMemory.result in
    let kept = rw c.in-Err-OutOfMemory.field-0-is at c.in-Err-OutOfMemory.ensures in (
      text,
      inr ((sym c.must_reopen.ensures.reopen ∙ c.if-must_reopen.false, kept.lacks refl), ap refused_text c.code-in-Err-OutOfMemory.ensures),
      Appends-kept c.write_outcome-in-Err-OutOfMemory.result (λ e. e ≡ WriterFailed) (g.W.Write.contents c.args.writer.now)
          (g.W.Write.contents c.write_answer.new.writer) _ text kept.unwritten c.write_outcome-in-Err-OutOfMemory.ensures,
    )

pub returns-in-Err : goal.returns-in-Err
returns-in-Err g c =
    let reply = query_untold c.args.project.now c.maps.result.now c.args.query _ (g.W.Write.contents c.args.writer.now)
    (g.W.Write.contents c.write_answer.new.writer) c.maps.ensures (sym c.must_reopen.ensures.reopen ∙ c.if-must_reopen.false) c.in-Err.ensures in
    (reply.0, reply.1, refl)
