-- A choice: the place of the best candidate, with its counts.
use Rattle.std.specs.Prelude.{◌≡◌, ℕ, ◌<◌, List, Bool, length, count_by, slice_get, Option, MatchOption, Some, false}
use Rattle.tree_pieces.specs.declared.edge.Edge.{Edge}
use Rattle.tree_pieces.specs.declared.piece.Piece.{Piece}
use Rattle.tree_pieces.specs.Division.{right_parts, left_parts, LiesAlong}
use Rattle.tree_pieces.specs.Tree.{is_split, IsBestAt, HasNoChoice}
use Rattle.tree_choice.specs.declared.choice.Choice.{Choice}

-- the piece at the place answered is the best candidate, and the counts are its counts
pub record IsChoice (lines : List Edge) (ps : List Piece) (used : List Bool) (c : Choice) :
    Type 0 where
  pub piece : Piece
  pub best : IsBestAt lines ps used c.at piece
  pub splits : c.splits ≡ count_by (is_split lines piece) ps
  pub right : c.right ≡ length (right_parts lines piece ps)
  pub left : c.left ≡ length (left_parts lines piece ps)

-- the choice is the best candidate, or None if there is none
abbrev pub IsChosen : List Edge → List Piece → List Bool → Option Choice → Type 0
IsChosen lines ps used choice =
    MatchOption choice (HasNoChoice lines ps used) (λ c. IsChoice lines ps used c)

-- an earlier piece of an unused line, on whose straight line the piece at the place n lies
pub record HasEarlier (lines : List Edge) (ps : List Piece) (used : List Bool) (n : ℕ) (p : Piece) :
    Type 0 where
  pub place : ℕ
  pub piece : Piece
  pub before : place < n
  pub stands : slice_get ps place ≡ Some piece
  pub free : slice_get used piece.line ≡ Some false
  pub along : LiesAlong lines piece p
