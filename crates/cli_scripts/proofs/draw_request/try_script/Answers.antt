use Rattle.std.proofs.Common.{ap, subst, sym, ◌∙◌}
use Rattle.run_canvas.specs.Canvases.{Drafted, draft_canvas}
use Rattle.cli_scripts.specs.Drawing.{IsDrawnOnto}
use Rattle.cli_scripts.proofs.Scripted.{start_fits}
use Rattle.cli_scripts.proofs.draw_request.try_script.Goals as goal

pub draw_over-requires-clause-fits : goal.draw_over-requires-clause-fits
draw_over-requires-clause-fits g c = start_fits _ _ c.new-maps.ensures.project (ap (λ (d : Drafted). d.cap) c.new-draft.ensures)

pub draw_over-requires-clause-copy : goal.draw_over-requires-clause-copy
draw_over-requires-clause-copy g c = ap (λ (d : Drafted). d.maps) c.new-draft.ensures ∙ sym c.new-maps.ensures.project

pub returns-clause-tried : goal.returns-clause-tried
returns-clause-tried g c = (
  c.draw_over.new.canvas,
  subst (λ (p : Drafted). IsDrawnOnto draft_canvas c.args.script.is_verbose c.args.script.lines.now c.draw_over.result p c.draw_over.new.canvas
      (g.W.Write.contents c.args.writer.now) (g.W.Write.contents c.draw_over.new.writer)) c.new-draft.ensures c.draw_over.ensures.drawn,
)
