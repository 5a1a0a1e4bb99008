-- What a list has lost once its first pieces were compared with a part of it.
use Rattle.std.specs.Prelude.{ℕ, ◌≤◌, List, length, take, All}
use Rattle.tree_pieces.specs.declared.edge.Edge.{Edge}
use Rattle.tree_pieces.specs.declared.piece.Piece.{Piece}
use Rattle.tree_pieces.specs.Pieces.{IsPiece}
use Rattle.tree_choice.specs.declared.exchange.Exchange.{Exchange}
use Rattle.tree_choice.specs.declared.floors.Floor.{Floor}
use Rattle.tree_choice.specs.Floors.{AreFloors, IsExchanged}
use Rattle.tree_choice.specs.Losses.{IsLoss, wholes, rests}

-- the first n pieces of the list are exchanged for the first of the part, as many as have a floor; all
-- floors are true of partitions of the list
pub record IsUnderWay (lines : List Edge) (ps : List Piece) (floors : List Floor)
    (part : List Piece) (n : ℕ) (x : Exchange) : Type 0 where
  pub exchanged : IsExchanged (take n ps) (take (length x.floors.items) part)
      (wholes x.losses.items) (rests x.losses.items)
  pub known : AreFloors lines ps ps floors → AreFloors lines ps part x.floors.items
  pub each : All (IsPiece lines) ps → All (IsPiece lines) part → All (IsLoss lines) x.losses.items

-- the list is exchanged for the whole part by at most 256 losses
pub record IsExchangeOf (ps : List Piece) (floors : List Floor) (part : List Piece) (x : Exchange) :
    Type 0 where
  pub exchanged : IsExchanged ps part (wholes x.losses.items) (rests x.losses.items)
  pub known : (lines : List Edge) → AreFloors lines ps ps floors →
      AreFloors lines ps part x.floors.items
  pub each : (lines : List Edge) → All (IsPiece lines) ps → All (IsPiece lines) part →
      All (IsLoss lines) x.losses.items
  pub few : length x.losses.items ≤ 256
