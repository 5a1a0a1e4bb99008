use Rattle.map_blocks.proofs.OneOut.{put_around}
use Rattle.map_blocks.proofs.leaving.lines_without.Goals as goal

pub returns-clause-ok : goal.returns-clause-ok
returns-clause-ok c =
    put_around c.args.lines.now c.empty-rest.result c.put_lines.new.rest c.put_lines-2.new.rest c.args.place c.len-count.result c.empty-rest.ensures c.in_ok-put_lines.ensures.ok c.in_ok-put_lines-2.ensures.ok
    c.len-count.ensures.count
