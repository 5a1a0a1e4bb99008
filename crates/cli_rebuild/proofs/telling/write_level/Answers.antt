use Rattle.cli_rebuild.proofs.Rebuilding.{left_told, made_told}
use Rattle.cli_rebuild.proofs.telling.write_level.Goals as goal

pub returns-in-Ok-write_made : goal.returns-in-Ok-write_made
returns-in-Ok-write_made g c =
    made_told c.args.level.now.name c.args.level.now.fate c.in-Made.made c.text.result.now (g.W.Write.contents c.args.writer.now) (g.W.Write.contents c.write_shown.new.writer)
    (g.W.Write.contents c.write_made.new.writer) c.in-Made.is c.text.ensures.text c.in-Ok.ensures c.in-Ok-write_made.ensures

pub returns-in-Ok-write_left : goal.returns-in-Ok-write_left
returns-in-Ok-write_left g c =
    left_told c.args.level.now.name c.args.level.now.fate c.in-Left.cause c.text.result.now (g.W.Write.contents c.args.writer.now)
    (g.W.Write.contents c.write_shown.new.writer) (g.W.Write.contents c.write_left.new.writer) c.in-Left.is c.text.ensures.text c.in-Ok.ensures
    c.in-Ok-write_left.ensures
