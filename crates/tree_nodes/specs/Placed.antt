-- A list of pieces with their rounded ends, the order of its pieces by places, and what is noted of their parts.
use Rattle.std.specs.Prelude.{◌≡◌, ℕ, ◌≤◌, ◌<◌, ◌++◌, nat_eq, List, [], ◌∷◌, length, filter_map, Option, Some, None, IfSome, if◌then◌else◌, Vec, vec_len, vec_capacity, Box}
use Rattle.std.specs.List.{range_with_len}
use Rattle.std.specs.List.Sorted.{IsPermutation}
use Rattle.std.specs.Global.{Global}
use Rattle.tree_pieces.specs.declared.edge.Edge.{Edge}
use Rattle.tree_pieces.specs.declared.piece.Piece.{Piece}
use Rattle.tree_pieces.specs.Division.{right_parts, left_parts}
use Rattle.tree_choice.specs.declared.ends.EndedList.{EndedList}
use Rattle.tree_choice.specs.Columns.{IsEnded}
use Rattle.tree_choice.specs.Floors.{AreKnown}
use Rattle.tree_nodes.specs.declared.placed.PlacedPieces.{PlacedPieces}

-- these are the numbers of the pieces of a list, in another order
abbrev pub IsPlaced : List Piece → Vec ℕ Global → Type 0
IsPlaced ps order = IsPermutation (range_with_len 0 (length ps)) order.items

-- these are pieces of the lines, and what is known of them is true of them as partitions of the list;
-- beside them stand their rounded ends, and the order, where there is one, has all their numbers
pub record IsPlacedList (lines : List Edge) (list : PlacedPieces) : Type 0 where
  pub ended : IsEnded lines list.ended
  pub placed : IfSome list.order (IsPlaced list.ended.pieces.items)
  pub known : AreKnown lines list.ended.pieces.items list.floors.items

-- a list that waits stands in a box
abbrev pub Waiting : Type 0
Waiting = Box PlacedPieces Global

-- the list has room for so many pieces and their ends in all
pub record HasPieceRoom (count : ℕ) (list : EndedList) : Type 0 where
  pub pieces : count ≤ vec_capacity list.pieces
  pub firsts : count ≤ vec_capacity list.firsts
  pub lasts : count ≤ vec_capacity list.lasts

-- there is room for one more piece
pub record CanTake (list : EndedList) : Type 0 where
  pub pieces : vec_len list.pieces < vec_capacity list.pieces
  pub firsts : vec_len list.firsts < vec_capacity list.firsts
  pub lasts : vec_len list.lasts < vec_capacity list.lasts

-- it has no piece, no order and no floors, and room for so many pieces
pub record IsEmptyList (count : ℕ) (list : PlacedPieces) : Type 0 where
  pub pieces : list.ended.pieces.items ≡ []
  pub firsts : list.ended.firsts.items ≡ []
  pub lasts : list.ended.lasts.items ≡ []
  pub order : list.order ≡ None
  pub floors : list.floors.items ≡ []
  pub room : HasPieceRoom count list.ended

-- the lists of the two sides of a partition stand behind the others, the right one last
pub record AreSideLists (lines : List Edge) (p : Piece) (ps : List Piece) (old new : List Waiting) :
    Type 0 where
  pub right : Waiting
  pub left : Waiting
  pub lists : new ≡ (old ++ left ∷ []) ++ right ∷ []
  pub right_is : right.value.ended.pieces.items ≡ right_parts lines p ps
  pub left_is : left.value.ended.pieces.items ≡ left_parts lines p ps
  pub right_listed : IsPlacedList lines right.value
  pub left_listed : IsPlacedList lines left.value

-- the number of a part by a piece's note; the greatest u32 stands for none
abbrev pub part_number : ℕ → Option ℕ
part_number note = if nat_eq note 4294967295 then None else Some note

-- each of so many pieces has a note, and those that have a part have the numbers of so many parts, in turn
pub record HasNotes (pieces parts : ℕ) (notes : Vec ℕ Global) : Type 0 where
  pub each : length notes.items ≡ pieces
  pub numbers : filter_map part_number notes.items ≡ range_with_len 0 parts
