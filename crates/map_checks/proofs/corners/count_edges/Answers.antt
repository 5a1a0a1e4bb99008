use Rattle.std.proofs.Common.{sym, ◌∙◌, arith}
use Rattle.map_checks.proofs.EdgeCounts.{tally_more, tally_room}
use Rattle.map_checks.proofs.ItemReads.{is_there}
use Rattle.map_checks.proofs.corners.count_edges.Goals as goal

pub unwrap-line-requires : goal.unwrap-line-requires
unwrap-line-requires c = is_there c.args.map.now.tables.lines c.loop-n.n _ c.line.ensures.item (omega arith)

pub count_line-requires-clause-room : goal.count_line-requires-clause-room
count_line-requires-clause-room c =
    tally_room c.args.map.now.tables c.loop-n.n c.loop-n.degrees (omega (arith, c.count-n-end.ensures.limit)) c.loop-n.invariant

pub loop-n-preserved : goal.loop-n-preserved
loop-n-preserved c =
    tally_more c.args.map.now.tables c.loop-n.n c.unwrap-line.result (sym c.line.ensures.item ∙ c.unwrap-line.ensures)
    c.loop-n.degrees c.count_line.new.degrees c.loop-n.invariant c.in_ok-count_line.ensures
