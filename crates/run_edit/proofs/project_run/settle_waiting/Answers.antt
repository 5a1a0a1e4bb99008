use Rattle.std.proofs.Common.{◌≡◌, ◌∙◌, [], Some, None, List, ℕ, refl, sym, subst}
use Rattle.std.specs.Prelude.{Option}
use Rattle.run_edit.specs.Composing.{goes_behind, goes_none}
use Rattle.run_edit.specs.Groups.{Waits, staged_of}
use Rattle.run_edit.specs.Runs.{none_waits}
use Rattle.run_edit.specs.Sessions.{GoesOver}
use Rattle.run_edit.specs.declared.batch.Batch.{Batch}
use Rattle.run_edit.proofs.Going.{nothing}
use Rattle.run_edit.proofs.project_run.settle_waiting.Goals as goal

pub settle_batch-requires : goal.settle_batch-requires
settle_batch-requires g c =
    let waits = subst (λ (w : Option Batch). Waits c.args.project.now w c.requires.0) (sym c.take.ensures.value ∙ c.in-Some.is) c.requires.1 in
    (staged_of waits.decided, waits.can)

pub returns-in-Ok-clause-taken : goal.returns-in-Ok-clause-taken
returns-in-Ok-clause-taken g c = λ lines wait.
    c.in-Ok.ensures.taken lines (subst (λ (w : Option Batch). Waits c.args.project.now w lines) (sym c.take.ensures.value ∙ c.in-Some.is) wait)

pub returns-in-Ok-clause-left : goal.returns-in-Ok-clause-left
returns-in-Ok-clause-left g c =
    let waits = subst (λ (w : Option Batch). Waits c.args.project.now w c.requires.0) (sym c.take.ensures.value ∙ c.in-Some.is) c.requires.1 in
    c.in-Ok.ensures.left c.requires.0 waits

pub returns-in-Err-clause-taken : goal.returns-in-Err-clause-taken
returns-in-Err-clause-taken g c = λ lines wait.
    c.in-Err.ensures.taken lines (subst (λ (w : Option Batch). Waits c.args.project.now w lines) (sym c.take.ensures.value ∙ c.in-Some.is) wait)

pub returns-in-None-clause-taken : goal.returns-in-None-clause-taken
returns-in-None-clause-taken g c = λ lines wait.
    nothing (GoesOver g.D.Disk) (goes_behind g.D.Disk) none_waits (tt {0}) c.args.project.now lines (g.W.Write.contents c.args.writer.now) (goes_none g.D.Disk c.args.project.now)
    (subst (λ (w : Option Batch). Waits c.args.project.now w lines) (sym c.take.ensures.value ∙ c.in-None.is) wait)

pub returns-in-None-clause-left : goal.returns-in-None-clause-left
returns-in-None-clause-left g c = subst (λ (w : Option Batch). Waits c.args.project.now w []) (sym c.take.ensures.after) refl
