use Rattle.tree_pieces.specs.Edges.{edges_of}
use Rattle.tree_pieces.proofs.FirstList.{first_are_pieces}
use Rattle.tree_pieces.proofs.first.pieces_of.Goals as goal

pub returns-in_err-lines-clause-each : goal.returns-in_err-lines-clause-each
returns-in_err-lines-clause-each c = first_are_pieces (edges_of c.args.map.now.tables) c.lines_are_drawn.ensures.drawn

pub returns-in_err-pieces-clause-each : goal.returns-in_err-pieces-clause-each
returns-in_err-pieces-clause-each c = first_are_pieces (edges_of c.args.map.now.tables) c.lines_are_drawn.ensures.drawn

pub returns-clause-each : goal.returns-clause-each
returns-clause-each c = first_are_pieces (edges_of c.args.map.now.tables) c.lines_are_drawn.ensures.drawn
