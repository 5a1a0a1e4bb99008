use Rattle.std.proofs.Common.{List, subst}
use Rattle.tree_pieces.specs.declared.edge.Edge.{Edge}
use Rattle.tree_pieces.specs.declared.piece.Piece.{Piece}
use Rattle.tree_choice.specs.Losses.{IsChange, wholes, rests, losses_in}
use Rattle.tree_choice.proofs.LossLemmas.{change_of_all}
use Rattle.tree_choice.proofs.exchange.known_in_part.Goals as goal

pub returns : goal.returns
returns c = λ ps part x.
    let lines = c.args.lines.now in
    let p = c.args.piece.now in
    let ls = losses_in c.args.blocks.now in
    let by = c.of-by.ensures in
    let change : IsChange lines p (wholes ls) (rests ls) c.change_by.result =
    subst (λ (es : List Edge). IsChange es p (wholes ls) (rests ls) c.change_by.result) by.lines
    (subst (λ (q : Piece). IsChange c.of-by.result.lines.now q (wholes ls) (rests ls) c.change_by.result) by.piece c.change_by.ensures) in
    c.lowered.ensures lines ps part p (change_of_all lines p ps part (wholes ls) (rests ls) c.change_by.result x change)
