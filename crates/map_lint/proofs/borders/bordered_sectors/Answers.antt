use Rattle.std.proofs.Common.{sym, ◌∙◌}
use Rattle.map_lint.proofs.BorderSteps.{bordered_more}
use Rattle.map_lint.proofs.borders.bordered_sectors.Goals as goal

pub loop-n-preserved : goal.loop-n-preserved
loop-n-preserved c =
    bordered_more c.args.map.now.tables c.loop-n.n c.unwrap-line.result (sym c.line.ensures.item ∙ c.unwrap-line.ensures)
    c.loop-n.marks.items c.mark_sides.new.marks.items c.loop-n.invariant c.mark_sides.ensures
