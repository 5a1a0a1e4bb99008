use Rattle.std.proofs.Common.{subst, List, ℕ}
use Rattle.run_edit.specs.Answers.{RepliesInMemory}
use Rattle.run_edit.specs.Texts.{outcome_text}
use Rattle.run_edit.proofs.Answering.{replies-command}
use Rattle.run_edit.proofs.LongLines.{long_line}
use Rattle.run_edit.proofs.spoken.DrawingSpoken.reply.Goals as goal

pub returns-in_default : goal.returns-in_default
returns-in_default g c = λ whole is.
    let old = c.args.self.now in
    let new = c.change-outcome.new.self in
    let text = outcome_text c.change-outcome.result in
    let told = replies-command 2007002 old new c.args.line.now c.change-outcome.result c.in_default.ensures c.change-outcome.ensures in
    (text, long_line 2007002 old new whole text (subst (λ (l : List ℕ). RepliesInMemory 2007002 old l text new) is told), c.write_told.ensures)

pub returns-in-Ok : goal.returns-in-Ok
returns-in-Ok g c = λ whole is. let told = c.in-Ok.ensures whole is in (told.0, told.1, (told.2, tt))

pub returns-in-Err : goal.returns-in-Err
returns-in-Err g c = λ whole is. c.in-Err.ensures whole is
