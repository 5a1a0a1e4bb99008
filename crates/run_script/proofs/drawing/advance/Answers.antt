use Rattle.map_blocks.specs.Blocks.{with_places}
use Rattle.run_script.proofs.ToldBlocks.{end_told, line_told}
use Rattle.run_script.proofs.drawing.advance.Goals as goal

pub returns-then-reading-clause-told : goal.returns-then-reading-clause-told
returns-then-reading-clause-told g c =
    line_told c.args.lines.now c.args.reading.now c.draw_next.new.reading c.draw_next.result c.requires.within.until c.if-reading.true c.requires.within.told
    c.draw_next.ensures.told

pub returns-else-reading-clause-told : goal.returns-else-reading-clause-told
returns-else-reading-clause-told g c =
    end_told (with_places c.args.lines.now) c.args.reading.now c.end_turn.new.reading c.end_turn.result c.if-reading.false c.requires.within.told c.end_turn.ensures.told
