use Rattle.std.proofs.Common.{◌∙◌, ap, inl, inr, subst}
use Rattle.std.proofs.KnownBytes.{Keeps-refl, Keeps-trans}
use Rattle.store_project.specs.States.{State}
use Rattle.run_canvas.specs.Canvases.{draft_over, project_canvas}
use Rattle.run_canvas.specs.Waiting.{Drawing}
use Rattle.cli_scripts.specs.Drawing.{IsDrawnOnto}
use Rattle.cli_scripts.proofs.Scripted.{held_back}
use Rattle.cli_sources.proofs.Opened.{no_status}
use Rattle.cli_scripts.proofs.draw_request.draw.Goals as goal

pub returns-in-Err-clause-small : goal.returns-in-Err-clause-small
returns-in-Err-clause-small g c = no_status g.D.Disk c.args.disk c.in-Err.refused.disk c.not_opened.result.how _
    (c.in-Err.refused.error, c.not_opened.ensures.how, c.in-Err.ensures.refused.0, c.in-Err.ensures.refused.2)

pub returns-in-Err-clause-drawn : goal.returns-in-Err-clause-drawn
returns-in-Err-clause-drawn g c = rw c.not_opened.ensures.disk (inl ((c.in-Err.refused.error, c.not_opened.ensures.how, c.in-Err.ensures.refused.0, c.in-Err.ensures.refused.2), c.in-Err.ensures.refused.1, Keeps-refl (g.W.Write.contents c.args.writer.now)))

pub returns-in-Some-clause-drawn : goal.returns-in-Some-clause-drawn
returns-in-Some-clause-drawn g c =
    inr (
      c.in-Ok.project,
      c.in-Ok.ensures.opened,
      inl (
        held_back c.args.script.lines.now c.args.script.files.now _ (draft_over c.in-Ok.project) (g.F.Write.contents c.args.faults.now) (g.F.Write.contents c.rehearse.new.faults)
            c.in-Some.ensures.tried,
        c.into_disk.ensures.disk,
        Keeps-refl (g.W.Write.contents c.args.writer.now),
      ),
    )

pub returns-clause-drawn : goal.returns-clause-drawn
returns-clause-drawn g c =
    let ((tried, whole), kept) = c.in-None.ensures.tried in
    inr (
      c.in-Ok.project,
      c.in-Ok.ensures.opened,
      inr (
        tried,
        whole,
        c.draw_onto-how.new.canvas,
        c.into_disk-2.ensures.disk ∙ ap (λ (s : State _). s.disk) c.into_project-project.ensures,
        subst (λ (d : Drawing _). IsDrawnOnto (project_canvas g.D.Disk) c.args.script.is_verbose c.args.script.lines.now c.draw_onto-how.result d c.draw_onto-how.new.canvas
            (g.W.Write.contents c.args.writer.now) (g.W.Write.contents c.draw_onto-how.new.writer)) c.new-canvas.ensures.first c.draw_onto-how.ensures.drawn,
      ),
    )

pub returns-clause-quiet : goal.returns-clause-quiet
returns-clause-quiet g c = λ is. Keeps-trans _ _ _ c.in-None.ensures.tried.1 (c.draw_onto-how.ensures.quiet is)
