use Rattle.std.proofs.Common.{◌≡◌, ◌∙◌, [], sym, subst}
use Rattle.std.proofs.lemmas.List.{take_all}
use Rattle.store_project.specs.States.{State}
use Rattle.run_edit.specs.Groups.{Waits}
use Rattle.run_edit.proofs.EditingLines.{query_stays}
use Rattle.run_edit.proofs.project_run.answer_alone.Goals as goal

pub returns-then-is_some-clause-left : goal.returns-then-is_some-clause-left
returns-then-is_some-clause-left g c =
    let told = c.answer_line-then-is_some.ensures c.args.line.now (sym (take_all 257 c.args.line.now c.requires.short)) in
    let same = query_stays g.D.Disk c.args.project.now c.answer_line-then-is_some.new.project c.args.line.now told.0 c.read_query.result c.read_query.ensures (sym c.is_some.ensures ∙ c.if-is_some.true) told.1 in
    subst (λ (s : State _). Waits s c.args.waiting.now []) (sym same) c.requires.none
