-- What is known of the cost of pieces as partitions of a list, without a count.
use Rattle.std.specs.Prelude.{◌≡◌, ℕ, ◌+◌, ◌≤◌, List, All, length, slice_get, Some}
use Rattle.std.specs.List.{sum_by}
use Rattle.tree_pieces.specs.declared.edge.Edge.{Edge}
use Rattle.tree_pieces.specs.declared.piece.Piece.{Piece}
use Rattle.tree_pieces.specs.Pieces.{IsPiece}
use Rattle.tree_pieces.specs.Division.{left_parts}
use Rattle.tree_pieces.specs.Tree.{cost}
use Rattle.tree_choice.specs.declared.floors.Floor.{Floor}
use Rattle.tree_choice.specs.declared.floors.Floor.TheVariants.{AtLeast, NoneLeft}

-- this is true of the piece as a partition of the list: it costs so much or more, or leaves nothing on
-- its left
abbrev pub IsFloor : List Edge → List Piece → Piece → Floor → Type 0
IsFloor lines ps p (AtLeast n) = n ≤ cost lines p ps
IsFloor lines ps p NoneLeft = length (left_parts lines p ps) ≡ 0

-- what stands beside the pieces qs, as far as it goes, is true of each as a partition of the list ps
pub record AreFloors (lines : List Edge) (ps qs : List Piece) (floors : List Floor) : Type 0 where
  pub each : (k : ℕ) (q : Piece) (f : Floor) → slice_get qs k ≡ Some q →
      slice_get floors k ≡ Some f → IsFloor lines ps q f

-- a list of pieces of the lines, and what stands beside them, as far as it goes, is true of each as a
-- partition of the list
pub record AreKnown (lines : List Edge) (ps : List Piece) (floors : List Floor) : Type 0 where
  pub pieces : All (IsPiece lines) ps
  pub known : AreFloors lines ps ps floors

-- the list with what is new is the part with what is gone, in another order: whatever number each
-- piece has, the sums agree
pub record IsExchanged (ps part gone new : List Piece) : Type 0 where
  pub sums : (w : Piece → ℕ) → sum_by w ps + sum_by w new ≡ sum_by w part + sum_by w gone
