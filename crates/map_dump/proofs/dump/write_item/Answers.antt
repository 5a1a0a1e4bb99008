use Rattle.std.proofs.Common.{sym}
use Rattle.std.specs.Prelude.{slice_get}
use Rattle.map_dump.specs.Dump.{additions_of}
use Rattle.map_dump.proofs.Written.{item_told, nothing_there}
use Rattle.map_dump.proofs.dump.write_item.Goals as goal

pub returns-in-Some : goal.returns-in-Some
returns-in-Some g c =
    item_told c.write_command.result (slice_get (additions_of c.args.map.now.tables c.args.kind) c.args.n) c.in-Some.command
    (g.W.Write.contents c.args.writer.now) (g.W.Write.contents c.write_command.new.writer) c.in-Some.ensures.command c.write_command.ensures

pub returns-in-None : goal.returns-in-None
returns-in-None g c = λ d at.
    absurd (nothing_there (slice_get (additions_of c.args.map.now.tables c.args.kind) c.args.n) d (sym c.in-None.ensures.command) at)
