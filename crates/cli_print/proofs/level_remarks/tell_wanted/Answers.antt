use Rattle.std.specs.Prelude.{option_map}
use Rattle.cli_print.specs.Choosing.{wants_view}
use Rattle.cli_print.proofs.LevelLines.{levels_told}
use Rattle.cli_print.proofs.level_remarks.tell_wanted.Goals as goal

pub returns-in-Ok-flush-clause-told : goal.returns-in-Ok-flush-clause-told
returns-in-Ok-flush-clause-told g c =
    let names = wants_view c.args.wants in
    levels_told names c.args.wad.now (option_map (λ s. s.now) c.args.name) c.deref.result.now c.in_ok-count.count c.status_after.result (g.W.Write.contents c.args.writer.now)
    (g.W.Write.contents c.write_levels.new.writer) (g.W.Write.contents c.write_total.new.writer) (g.W.Write.contents c.flush.new.self)
    (rw c.deref.ensures.value c.in-Ok.ensures.wanted) c.in_ok-count.ensures c.status_after.ensures.status c.in_ok-write_total.ensures c.in-Ok-flush.ensures.bytes
