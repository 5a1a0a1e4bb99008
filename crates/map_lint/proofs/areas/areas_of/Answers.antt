use Rattle.std.proofs.Common.{◌*◌, ◌^◌, sym, ◌∙◌, arith}
use Rattle.map_checks.proofs.ItemReads.{is_there}
use Rattle.map_lint.proofs.AreaSteps.{sums_more, within_weaker}
use Rattle.map_lint.proofs.areas.areas_of.Goals as goal

pub unwrap-line-requires : goal.unwrap-line-requires
unwrap-line-requires c = is_there c.args.map.now.tables.lines c.loop-n.n _ c.line.ensures.item (omega arith)

pub add_line-requires-clause-room : goal.add_line-requires-clause-room
add_line-requires-clause-room c =
    within_weaker (2 ^ 49 * c.loop-n.n) (2 ^ 100) c.loop-n.areas.items c.loop-n.invariant.within (omega (arith, c.count-n-end.ensures.limit))

pub loop-n-preserved : goal.loop-n-preserved
loop-n-preserved c =
    sums_more c.args.map.now.tables c.loop-n.n c.unwrap-line.result (sym c.line.ensures.item ∙ c.unwrap-line.ensures)
    c.loop-n.areas.items c.add_line.new.areas.items c.loop-n.invariant c.add_line.ensures
