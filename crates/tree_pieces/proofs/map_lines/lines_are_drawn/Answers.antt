use Rattle.tree_pieces.proofs.EdgeLemmas.{edges_are}
use Rattle.tree_pieces.proofs.map_lines.lines_are_drawn.Goals as goal

pub returns-clause-drawn : goal.returns-clause-drawn
returns-clause-drawn c = edges_are c.args.map.now.tables c.count.ensures.well_formed
