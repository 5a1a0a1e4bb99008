-- Lists of pieces with their rounded ends beside them.
use Rattle.std.proofs.Common.{◌≡◌, sym, subst, List, All}
use Rattle.lump_records.specs.declared.records.Vertex.{Vertex}
use Rattle.tree_pieces.specs.declared.edge.Edge.{Edge}
use Rattle.tree_pieces.specs.declared.piece.Piece.{Piece}
use Rattle.tree_pieces.specs.Pieces.{IsPiece}
use Rattle.tree_choice.specs.declared.ends.EndedList.{EndedList}
use Rattle.tree_choice.specs.declared.ends.EndedPieces.{EndedPieces}
use Rattle.tree_choice.specs.Candidates.{AreEnded}
use Rattle.tree_choice.specs.Columns.{AreEnds, IsEnded}

-- slices of a list with its ends
pub ends_in : (lines : List Edge) (slices : EndedPieces) (ps : List Piece) (fs ls : List Vertex) → AreEnds lines ps fs ls
    → slices.pieces.now ≡ ps → slices.firsts.now ≡ fs → slices.lasts.now ≡ ls → AreEnds lines slices.pieces.now slices.firsts.now slices.lasts.now
ends_in lines slices ps fs ls ends p f l = rw (p, f, l) ends

pub ended_in : (lines : List Edge) (slices : EndedPieces) (list : EndedList) → All (IsPiece lines) list.pieces.items → IsEnded lines list
    → slices.pieces.now ≡ list.pieces.items → slices.firsts.now ≡ list.firsts.items → slices.lasts.now ≡ list.lasts.items → AreEnded lines slices
ended_in lines slices list all ends p f l =
    record { each = subst (All (IsPiece lines)) (sym p) all; ends = ends_in lines slices list.pieces.items list.firsts.items list.lasts.items ends p f l }
