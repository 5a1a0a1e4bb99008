use Rattle.std.proofs.Common.{subst, List, ℕ}
use Rattle.run_edit.specs.Texts.{outcome_text}
use Rattle.run_edit.specs.Editing.{RepliesInProject}
use Rattle.run_edit.proofs.EditingLines.{long_line, replies_change, replies_query}
use Rattle.run_edit.proofs.editing.answer_line.Goals as goal

pub returns-in_default : goal.returns-in_default
returns-in_default g c = λ whole is.
    let facts = g.D.Disk in
    let old = c.args.project.now in
    let new = c.change-outcome.new.project in
    let outcome = c.change-outcome.result in
    let text = outcome_text outcome in
    let told = replies_change facts old new c.args.line.now outcome c.in_default.ensures c.change-outcome.ensures in (
      text,
      long_line facts old new whole text
          (subst (λ (l : List ℕ). RepliesInProject facts old l text new) is told),
      c.write_outcome.ensures,
    )

pub returns : goal.returns
returns g c = λ whole is.
    let facts = g.D.Disk in
    let m = c.args.project.now in
    let text = c.answer_query.ensures.0 in
    let told = replies_query facts m c.args.line.now text c.in-Some.query c.in-Some.ensures c.answer_query.ensures.1 in (
      text,
      long_line facts m m whole text
          (subst (λ (l : List ℕ). RepliesInProject facts m l text m) is told),
      c.answer_query.ensures.2,
    )
