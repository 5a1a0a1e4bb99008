use Rattle.std.proofs.Common.{◌∙◌, Option, Ok, Err, Some, None, refl, sym, subst}
use Rattle.std.specs.Prelude.{IfSome}
use Rattle.store_project.specs.Groups.{GroupState}
use Rattle.run_edit.specs.Groups.{IsEmptyFor}
use Rattle.run_edit.specs.declared.batch.Batch.{Batch}
use Rattle.run_edit.proofs.Settling.{settled_taken}
use Rattle.run_edit.proofs.Waiting.{empty_waits}
use Rattle.run_edit.proofs.project_run.settle_batch.Goals as goal

pub returns-in-Some-clause-taken : goal.returns-in-Some-clause-taken
returns-in-Some-clause-taken g c = λ lines waits.
    settled_taken g.D.Disk c.args.project.now c.put-fate.new.project c.put-fate.result.0 waits.decided lines c.as_slice-decided.result.now (Ok (Some c.over.result))
    (g.W.Write.contents c.args.writer.now) (g.W.Write.contents c.write_settled.new.writer) waits.asked (waits.outcomes ∙ sym c.as_slice-decided.ensures)
    (c.put-fate.ensures.goes c.args.batch lines refl (sym c.as_slice-decided.ensures) waits) c.in-Ok.ensures

pub returns-in-Some-clause-left : goal.returns-in-Some-clause-left
returns-in-Some-clause-left g c = λ lines waits.
    empty_waits c.put-fate.new.project c.over.result c.in-Some.group c.over.ensures.group c.over.ensures.outcomes
    (subst (λ (o : Option GroupState). IfSome o (IsEmptyFor c.put-fate.new.project)) c.in-Some.is
    (c.put-fate.ensures.left c.args.batch lines refl (sym c.as_slice-decided.ensures) waits))

pub returns-in-None-clause-taken : goal.returns-in-None-clause-taken
returns-in-None-clause-taken g c = λ lines waits.
    settled_taken {U = Option Batch} g.D.Disk c.args.project.now c.put-fate.new.project c.put-fate.result.0 waits.decided lines c.as_slice-decided.result.now (Ok None)
    (g.W.Write.contents c.args.writer.now) (g.W.Write.contents c.write_settled.new.writer) waits.asked (waits.outcomes ∙ sym c.as_slice-decided.ensures)
    (c.put-fate.ensures.goes c.args.batch lines refl (sym c.as_slice-decided.ensures) waits) c.in-Ok.ensures

pub returns-in-Err-clause-taken : goal.returns-in-Err-clause-taken
returns-in-Err-clause-taken g c = λ lines waits.
    settled_taken {U = Option Batch} g.D.Disk c.args.project.now c.put-fate.new.project c.put-fate.result.0 waits.decided lines c.as_slice-decided.result.now (Err c.in-Err.error)
    (g.W.Write.contents c.args.writer.now) (g.W.Write.contents c.write_settled.new.writer) waits.asked (waits.outcomes ∙ sym c.as_slice-decided.ensures)
    (c.put-fate.ensures.goes c.args.batch lines refl (sym c.as_slice-decided.ensures) waits) c.in-Err.ensures
