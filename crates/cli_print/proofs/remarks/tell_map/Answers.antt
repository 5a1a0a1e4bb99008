use Rattle.cli_print.specs.Choosing.{wants_view}
use Rattle.cli_print.specs.Linting.{remarks}
use Rattle.cli_print.proofs.Linting.{total_told}
use Rattle.cli_print.proofs.remarks.tell_map.Goals as goal

pub returns-in-Ok-clause-told : goal.returns-in-Ok-clause-told
returns-in-Ok-clause-told g c =
    total_told (remarks (g.O.Origin.origin c.args.origin.now) (wants_view c.args.wants) c.args.map.now.tables) c.in_ok-count.count c.status_after.result (g.W.Write.contents c.args.writer.now)
    (g.W.Write.contents c.write_map.new.writer) (g.W.Write.contents c.write_total.new.writer) (g.W.Write.contents c.flush.new.self) c.status_after.ensures.status
    c.in_ok-count.ensures c.in_ok-write_total.ensures c.in-Ok.ensures.bytes
