use Rattle.std.proofs.Common.{◌≡◌, List, ◌++◌, sym, ap, ◌∙◌, subst, All}
use Rattle.std.proofs.lemmas.List.{append-nil, at_drop_all}
use Rattle.tree_pieces.specs.declared.piece.Piece.{Piece}
use Rattle.tree_pieces.specs.Plane.{IsEdge}
use Rattle.tree_pieces.specs.Pieces.{IsPiece}
use Rattle.tree_pieces.specs.First.{first_pieces, pieces_from}
use Rattle.tree_pieces.proofs.FirstList.{first_are_pieces}
use Rattle.tree_pieces.proofs.first.pieces_in.Goals as goal
use Rattle.tree_pieces.proofs.first.pieces_in.Goals.{After-loop-line}

-- all are listed
listed : (c : After-loop-line) → c.loop-line.pieces.items ≡ first_pieces c.args.lines.now
listed c =
    let ps = c.loop-line.pieces.items in
    let n = c.loop-line.line in
    sym (append-nil ps) ∙ ap (λ (qs : List Piece). ps ++ qs) (sym (at_drop_all (pieces_from n) c.as_slice-edges.result.now n c.loop-line-test.false))
    ∙ c.loop-line.invariant ∙ ap first_pieces c.as_slice-edges.ensures.lines

pub returns-clause-list : goal.returns-clause-list
returns-clause-list c = listed c

pub returns-clause-each : goal.returns-clause-each
returns-clause-each c = subst (All (IsPiece c.args.lines.now)) (sym (listed c)) (first_are_pieces c.args.lines.now (subst (All IsEdge) c.as_slice-edges.ensures.lines c.as_slice-edges.ensures.drawn))
