use Rattle.std.proofs.Common.{◌≡◌, refl, subst, List, ℕ}
use Rattle.run_edit.specs.Answers.{RepliesInMemory}
use Rattle.run_edit.specs.Texts.{outcome_text, refused_text}
use Rattle.run_edit.specs.declared.error.EditorError.TheVariants.{WriterFailed}
use Rattle.run_edit.proofs.Answering.{replies-command, replies-lack, replies-query, some_reply}
use Rattle.run_edit.proofs.Going.{Appends-kept}
use Rattle.run_edit.proofs.LongLines.{long_line}
use Rattle.run_edit.proofs.drawing.answer_line.Goals as goal

pub returns-in_default : goal.returns-in_default
returns-in_default g c = λ whole is.
    let old = c.args.drawing.now in
    let new = c.change-outcome.new.self in
    let text = outcome_text c.change-outcome.result in
    let told = replies-command 2007002 old new c.args.line.now c.change-outcome.result c.in_default.ensures c.change-outcome.ensures in
    (text, long_line 2007002 old new whole text (subst (λ (l : List ℕ). RepliesInMemory 2007002 old l text new) is told), c.write_outcome.ensures)

pub returns-in-Ok : goal.returns-in-Ok
returns-in-Ok g c = λ whole is.
    let m = c.args.drawing.now in
    let text = c.in-Ok.ensures.0 in
    let told = replies-query 2007002 m c.args.line.now text c.in-Some.query c.in-Some.ensures c.in-Ok.ensures.1 in
    (text, long_line 2007002 m m whole text (subst (λ (l : List ℕ). RepliesInMemory 2007002 m l text m) is told), c.in-Ok.ensures.2)

pub returns-in-Err-OutOfMemory : goal.returns-in-Err-OutOfMemory
returns-in-Err-OutOfMemory g c = λ whole is.
    let m = c.args.drawing.now in
    let text = refused_text c.code.result in
    let kept = rw c.in-Err-OutOfMemory.field-0-is at c.in-Err-OutOfMemory.ensures in
    let told = replies-lack 2007002 m c.args.line.now c.in-Some.query c.code.result c.in-Some.ensures (kept.lacks refl) c.code.ensures in (
      text,
      long_line 2007002 m m whole text (subst (λ (l : List ℕ). RepliesInMemory 2007002 m l text m) is told),
      Appends-kept c.write_outcome-in-Err-OutOfMemory.result (λ e. e ≡ WriterFailed) (g.W.Write.contents c.args.writer.now)
          (g.W.Write.contents c.answer_query.new.writer) _ text kept.unwritten c.write_outcome-in-Err-OutOfMemory.ensures,
    )

pub returns-in-Err : goal.returns-in-Err
returns-in-Err g c = λ whole is.
    let m = c.args.drawing.now in
    let reply = some_reply 2007002 m c.args.line.now c.in-Some.query _ (g.W.Write.contents c.args.writer.now)
    (g.W.Write.contents c.answer_query.new.writer) c.in-Some.ensures c.in-Err.ensures in
    (reply.0, long_line 2007002 m m whole reply.0 (subst (λ (l : List ℕ). RepliesInMemory 2007002 m l reply.0 m) is reply.1), refl)
