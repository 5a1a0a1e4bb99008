-- What a list loses as it becomes a part of it, and what that does to the counts of a partition.
use Rattle.std.specs.Prelude.{◌≡◌, ◌⊎◌, ◌+◌, ◌≤◌, List, length, All, map, filter_map, flat_map, count_by, Option, Some, None, IfSome}
use Rattle.lump_records.specs.declared.records.Vertex.{Vertex}
use Rattle.tree_pieces.specs.declared.edge.Edge.{Edge}
use Rattle.tree_pieces.specs.declared.piece.Piece.{Piece}
use Rattle.tree_pieces.specs.Boxes.{IsWellIn}
use Rattle.tree_pieces.specs.Pieces.{IsPiece, first_end, last_end}
use Rattle.tree_pieces.specs.Division.{right_parts, left_parts}
use Rattle.tree_pieces.specs.Tree.{is_split}
use Rattle.tree_choice.specs.declared.losses.Change.{Change}
use Rattle.tree_choice.specs.declared.losses.Loss.{Loss}
use Rattle.tree_choice.specs.declared.losses.LossBlock.{LossBlock}
use Rattle.tree_choice.specs.Columns.{IsEnded}

-- the pieces that a list loses
abbrev pub wholes : List Loss → List Piece
wholes losses = map (λ l. l.piece) losses

-- what its part has of them
abbrev pub rests : List Loss → List Piece
rests losses = filter_map (λ l. l.rest) losses

-- two pieces are of one side of one line, and both begin or both end at one place
pub record IsRestOf (lines : List Edge) (p rest : Piece) : Type 0 where
  pub piece : IsPiece lines rest
  pub line : p.line ≡ rest.line
  pub side : p.side ≡ rest.side
  pub ends : (p.from ≡ rest.from) ⊎ (p.to ≡ rest.to)

-- a piece of the lines, and a rest of it if there is one
pub record IsLoss (lines : List Edge) (l : Loss) : Type 0 where
  pub piece : IsPiece lines l.piece
  pub rest : IfSome l.rest (IsRestOf lines l.piece)

-- the two rounded ends of what is gone of a piece lie where they should
abbrev pub HoldsGone : (Vertex → Type 0) → List Edge → Piece → Option Piece → Type 0
HoldsGone Within lines p None = Within (first_end lines p) × Within (last_end lines p)
HoldsGone Within lines p (Some rest) =
    ((p.from ≡ rest.from) × (Within (last_end lines p) × Within (last_end lines rest))) ⊎
    ((p.to ≡ rest.to) × (Within (first_end lines p) × Within (first_end lines rest)))

-- a block of at most sixteen losses: its box holds what is gone of each, and so many have no rest
pub record IsLossBlock (lines : List Edge) (block : LossBlock) : Type 0 where
  pub each : All (IsLoss lines) block.losses.items
  pub few : length block.losses.items ≤ 16
  pub held : All (λ l. HoldsGone (IsWellIn block.bounds) lines l.piece l.rest) block.losses.items
  pub gone : block.gone + length (rests block.losses.items) ≡ length block.losses.items
  pub lost : block.lost.pieces.items ≡ wholes block.losses.items
  pub gained : block.gained.pieces.items ≡ rests block.losses.items
  pub lost_ends : IsEnded lines block.lost
  pub gained_ends : IsEnded lines block.gained

-- the losses of all blocks
abbrev pub losses_in : List LossBlock → List Loss
losses_in blocks = flat_map (λ b. b.losses.items) blocks

-- the counts of a list with what is gained are those of its part with what is lost
pub record IsChange (lines : List Edge) (partition : Piece) (list part : List Piece) (c : Change) :
    Type 0 where
  pub splits : count_by (is_split lines partition) list + c.gained.splits
      ≡ count_by (is_split lines partition) part + c.lost.splits
  pub right : length (right_parts lines partition list) + c.gained.right
      ≡ length (right_parts lines partition part) + c.lost.right
  pub left : length (left_parts lines partition list) + c.gained.left
      ≡ length (left_parts lines partition part) + c.lost.left
