use Rattle.std.proofs.Common.{Ok, ap, arith}
use Rattle.cli_scripts.proofs.Scripted.{drawn_whole, stopped_whole}
use Rattle.cli_scripts.proofs.draw_request.draw_whole_over.Goals as goal

pub returns-in-Ok-clause-drawn : goal.returns-in-Ok-clause-drawn
returns-in-Ok-clause-drawn g c = (
  drawn_whole g.C.Canvas c.args.lines.now (Ok c.in-Ok.status) c.args.canvas.now c.draw_over.new.canvas c.in-Ok.ensures.drawn (ap Ok c.if-status-eq-DONE.true),
  c.in-Ok.ensures.quiet (ap Ok c.if-status-eq-DONE.true),
)

pub returns-in-Ok-2-clause-drawn : goal.returns-in-Ok-2-clause-drawn
returns-in-Ok-2-clause-drawn g c =
    stopped_whole g.C.Canvas c.args.lines.now c.args.files.now c.in-Ok.status c.args.canvas.now (g.F.Write.contents c.args.faults.now) (g.F.Write.contents c.draw_over.new.faults)
    c.in-Ok.ensures.told (λ zero. omega (arith, zero, c.if-status-eq-DONE.false))
