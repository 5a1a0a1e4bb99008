use Rattle.std.proofs.Common.{map, refl}
use Rattle.std.specs.Prelude.{vec_items}
use Rattle.run_canvas.proofs.Putting.{turned_behind}
use Rattle.run_canvas.proofs.project_canvas.ProjectCanvas.clear_journal.Goals as goal

pub returns : goal.returns
returns g c =
    let (settled, alone, lost) = c.if-not-put.ensures.settled refl in
    turned_behind g.D.Disk c.args.self.now c.put.new.self c.turn_for.new.self (map vec_items c.args.lines.now) c.turn_for.result
    (record {
      lacked = c.has_room_for.ensures.full c.if-has_room_for.false;
      settled = settled;
      flags = record { alone = alone; lost = lost };
    })
    c.turn_for.ensures
