use Rattle.map_areas.proofs.Steps.{lines_then}
use Rattle.map_areas.proofs.drawing.Drawing.add_sides.Goals as goal

pub returns-clause-kept : goal.returns-clause-kept
returns-clause-kept c =
    lines_then c.args.self.now.map.tables c.add_side-2.new.self.map.tables c.add_side-3.new.self.map.tables c.in_ok-right-2.ensures.kept c.in_ok-left.ensures.kept
