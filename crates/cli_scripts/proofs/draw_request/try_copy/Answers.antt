use Rattle.std.proofs.Common.{ap, inl, refl, subst}
use Rattle.std.proofs.KnownBytes.{Keeps-refl}
use Rattle.run_canvas.specs.Canvases.{Drafted, draft_canvas}
use Rattle.cli_scripts.specs.Drawing.{IsDrawnOnto}
use Rattle.cli_scripts.proofs.Scripted.{copy_fits}
use Rattle.cli_scripts.proofs.draw_request.try_copy.Goals as goal

pub draw_over-requires-clause-fits : goal.draw_over-requires-clause-fits
draw_over-requires-clause-fits g c = copy_fits _ c.args.cap c.in-Ok.draft c.in-Ok.ensures c.requires.fits

pub draw_over-requires-clause-copy : goal.draw_over-requires-clause-copy
draw_over-requires-clause-copy g c = ap (λ (d : Drafted). d.maps) c.in-Ok.ensures

pub returns-in-Ok-clause-tried : goal.returns-in-Ok-clause-tried
returns-in-Ok-clause-tried g c = (
  c.draw_over.new.canvas,
  subst (λ (p : Drafted). IsDrawnOnto draft_canvas c.args.script.is_verbose c.args.script.lines.now c.draw_over.result p c.draw_over.new.canvas
      (g.W.Write.contents c.args.writer.now) (g.W.Write.contents c.draw_over.new.writer)) c.in-Ok.ensures c.draw_over.ensures.drawn,
)

pub returns-in-Err-clause-tried : goal.returns-in-Err-clause-tried
returns-in-Err-clause-tried g c = (_, inl (record { memory = refl; stays = refl; unwritten = Keeps-refl (g.W.Write.contents c.args.writer.now) }))
