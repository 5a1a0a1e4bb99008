use Rattle.std.proofs.Common.{◌∙◌, [], sym, subst}
use Rattle.store_project.specs.Groups.{CanPut, GroupState}
use Rattle.store_project.specs.declared.error.ProjectError.TheVariants.{Reopen}
use Rattle.run_edit.proofs.Waiting.{begun_waiting, not_refused}
use Rattle.run_edit.proofs.batch.begin.Goals as goal

pub returns-in-Ok : goal.returns-in-Ok
returns-in-Ok g c = λ lines none.
    begun_waiting c.args.project.now c.over.result.group c.over.result.outcomes c.args.waiting.now lines (sym c.is_some.ensures ∙ c.if-is_some.false) none c.over.ensures.outcomes
    (subst (λ (v : GroupState). CanPut c.args.project.now v []) (sym c.over.ensures.group) c.in-Ok.ensures.begun) (λ reopen. not_refused c.in-Ok.group Reopen (c.in-Ok.ensures.reopen.1 reopen))
