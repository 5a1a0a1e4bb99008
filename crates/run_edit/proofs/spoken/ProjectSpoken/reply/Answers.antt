use Rattle.std.proofs.Common.{subst, List, ℕ}
use Rattle.run_edit.specs.Texts.{outcome_text}
use Rattle.run_edit.specs.Editing.{RepliesInProject}
use Rattle.run_edit.proofs.EditingLines.{long_line, replies_change}
use Rattle.run_edit.proofs.spoken.ProjectSpoken.reply.Goals as goal

pub returns-in_default : goal.returns-in_default
returns-in_default g c = λ whole is.
    let facts = g.D.Disk in
    let old = c.args.self.now in
    let new = c.change-outcome.new.project in
    let outcome = c.change-outcome.result in
    let text = outcome_text outcome in
    let told = replies_change facts old new c.args.line.now outcome c.in_default.ensures c.change-outcome.ensures in (
      text,
      long_line facts old new whole text
          (subst (λ (l : List ℕ). RepliesInProject facts old l text new) is told),
      c.write_told.ensures,
    )

pub returns-in-Ok : goal.returns-in-Ok
returns-in-Ok g c = λ whole is. let told = c.in-Ok.ensures whole is in (told.0, told.1, (told.2, tt))

pub returns-in-Err : goal.returns-in-Err
returns-in-Err g c = λ whole is. c.in-Err.ensures whole is
