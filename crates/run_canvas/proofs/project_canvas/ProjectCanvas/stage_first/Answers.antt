use Rattle.std.proofs.Common.{◌∙◌, [], Option, ap, false, refl, subst, sym, Some}
use Rattle.std.specs.Prelude.{IfSome, is_some}
use Rattle.store_project.specs.Groups.{GroupState}
use Rattle.run_edit.specs.Groups.{IsEmptyFor}
use Rattle.run_canvas.specs.Waiting.{Drawing, IsStaged}
use Rattle.run_canvas.specs.Drawings.{drawing_of}
use Rattle.run_canvas.proofs.Putting.{first_staged}
use Rattle.run_canvas.proofs.project_canvas.ProjectCanvas.stage_first.Goals as goal

pub invariant_of-self-in-Ok-Some : goal.invariant_of-self-in-Ok-Some
invariant_of-self-in-Ok-Some g c =
    let project = c.self.inside.project in
    let can = rw c.in-Ok-Some.field-0-is at c.in-Ok-Some.ensures.can in
    let (ready, begun) = c.in-Some.ensures.begun in
    (((_, can [] begun), ready), subst (λ (o : Option GroupState). IfSome o (IsEmptyFor project)) (sym c.take.ensures.after) tt)

pub returns-in-Ok-Some-clause-staged : goal.returns-in-Ok-Some-clause-staged
returns-in-Ok-Some-clause-staged g c =
    let inside = c.self.inside in
    let can = rw c.in-Ok-Some.field-0-is at c.in-Ok-Some.ensures.can in
    let ends = rw c.in-Ok-Some.field-0-is at c.in-Ok-Some.ensures.ends in
    let (ready, begun) = c.in-Some.ensures.begun in
    let old : Drawing _ = drawing_of inside in
    let new : Drawing _ =
    record { project = inside.project; group = Some c.stage.new.group; has_spare = is_some c.take.new.self; is_alone = inside.is_alone; holds_earlier = false; has_lost = inside.has_lost } in
    subst (λ (d : Drawing _). IsStaged d c.args.line.now c.in-Ok-Some.number new) c.self.view_is
    (first_staged g.D.Disk old new c.in-Some.group c.stage.new.group c.args.line.now c.in-Ok-Some.number
    (ap (λ (d : Drawing _). d.is_alone) c.self.view_is ∙ c.requires.together) ready
    (ap (λ (d : Drawing _). d.group) c.self.view_is ∙ c.requires.none) begun ends (can [] begun) refl refl refl
    (record { alone = refl; lost = refl }))
