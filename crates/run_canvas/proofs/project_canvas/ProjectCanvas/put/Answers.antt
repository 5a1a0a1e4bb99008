use Rattle.std.proofs.Common.{◌≡◌, ◌∙◌, Option, false, refl, subst, sym}
use Rattle.std.specs.Prelude.{IfSome}
use Rattle.store_project.specs.Groups.{GroupState, IsGroupFor}
use Rattle.run_canvas.specs.Waiting.{Drawing, Loses}
use Rattle.run_canvas.specs.Drawings.{drawing_of}
use Rattle.run_canvas.proofs.Putting.{put_lost}
use Rattle.run_canvas.proofs.project_canvas.ProjectCanvas.put.Goals as goal

pub returns-in-Err-clause-lost : goal.returns-in-Err-clause-lost
returns-in-Err-clause-lost g c = λ failed.
    let inside = c.self.inside in
    let some = sym c.take.ensures.value ∙ c.in-Some.is in
    let sound = subst (λ (o : Option GroupState). IfSome o (λ g. IsGroupFor inside.project g × (inside.project.must_reopen ≡ false))) some c.self.invariant.0 in
    let new : Drawing _ =
    record { project = c.put.new.self; group = c.take.new.self; has_spare = false; is_alone = inside.is_alone; holds_earlier = inside.holds_earlier; has_lost = inside.holds_earlier } in
    subst (λ (d : Drawing _). Loses g.D.Disk d new) c.self.view_is
    (put_lost g.D.Disk (drawing_of inside) new c.in-Some.group c.in-Err.field-0 some sound c.in-Err.ensures.ends c.in-Err.ensures.any_moment c.in-Err.ensures.kept
    c.in-Err.ensures.cap c.take.ensures.after refl)
