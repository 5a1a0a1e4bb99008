use Rattle.std.proofs.Common.{◌∙◌, ap, map, sym}
use Rattle.std.specs.Prelude.{vec_items}
use Rattle.run_canvas.specs.Waiting.{Drawing}
use Rattle.run_canvas.proofs.Putting.{group_behind}
use Rattle.run_canvas.proofs.project_canvas.ProjectCanvasCanvas.make_room.Goals as goal

pub returns-in-None : goal.returns-in-None
returns-in-None g c =
    group_behind g.D.Disk c.args.self.now c.clear_journal.new.self c.keep_spare.new.self (map vec_items c.args.lines.now) c.keep_spare.result
    (sym (ap (λ (d : Drawing _). d.is_alone) c.self.view_is) ∙ c.if-self.false) c.in-None.ensures c.keep_spare.ensures
