use Rattle.std.proofs.Common.{refl}
use Rattle.run_canvas.proofs.Putting.{alone_behind}
use Rattle.run_canvas.proofs.project_canvas.ProjectCanvasCanvas.change.Goals as goal

pub returns-in-None : goal.returns-in-None
returns-in-None g c =
    alone_behind g.D.Disk c.args.self.now c.stage.new.self c.put_alone-in-None.new.self c.args.line.now c.put_alone-in-None.result (c.in-None.ensures.alone refl)
    c.in-None.ensures.staged c.put_alone-in-None.ensures
