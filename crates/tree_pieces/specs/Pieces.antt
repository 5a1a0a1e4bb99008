-- Pieces of lines, and the steps that they cover.
use Rattle.std.specs.Prelude.{◌≡◌, ℕ, ◌<◌, Bool, true, false, ◌&&◌, nat_eq, List, length, slice_index_or, count_by, pos, int_le}
use Rattle.lump_records.specs.declared.records.Vertex.{Vertex}
use Rattle.tree_pieces.specs.declared.edge.Edge.{Edge}
use Rattle.lump_records.specs.declared.plane.Ray.{Ray}
use Rattle.tree_pieces.specs.declared.edge.Facing.{Facing}
use Rattle.tree_pieces.specs.declared.edge.Facing.TheVariants.{Along, Against}
use Rattle.tree_pieces.specs.declared.piece.Piece.{Piece}
use Rattle.tree_pieces.specs.declared.piece.Ends.{Ends}
use Rattle.tree_pieces.specs.Plane.{ray}
use Rattle.tree_pieces.specs.Fractions.{IsFraction, IsBelow, point_at, step_within}

-- what stands for a line that the list doesn't have
abbrev pub no_edge : Edge
no_edge =
    let origin : Vertex = record { x = pos 0; y = pos 0 } in
    record { v1 = origin; v2 = origin; has_left = false }

-- the line of this number
abbrev pub edge_at : List Edge → ℕ → Edge
edge_at lines line = slice_index_or lines line no_edge

-- the whole line of a piece
abbrev pub edge_of : List Edge → Piece → Edge
edge_of lines p = edge_at lines p.line

-- that line in the piece's direction
abbrev pub ray_of : List Edge → Piece → Ray
ray_of lines p = ray (edge_of lines p) p.side

-- the rounded ends of a piece, in the order of its line
abbrev pub first_end : List Edge → Piece → Vertex
first_end lines p = point_at (edge_of lines p) p.from

abbrev pub last_end : List Edge → Piece → Vertex
last_end lines p = point_at (edge_of lines p) p.to

-- the rounded ends of a piece, in the order of its line
abbrev pub ends_of : List Edge → Piece → Ends
ends_of lines p = record { first = first_end lines p; last = last_end lines p }

-- two places are one
abbrev pub same_place : Vertex → Vertex → Bool
same_place u v = int_le u.x v.x && int_le v.x u.x && int_le u.y v.y && int_le v.y u.y

-- a piece of a line of the list, whose fractions rise and whose rounded ends differ
pub record IsPiece (lines : List Edge) (p : Piece) : Type 0 where
  pub line_in : p.line < length lines
  pub from_in : IsFraction p.from
  pub to_in : IsFraction p.to
  pub rising : IsBelow p.from p.to
  pub ends_differ : same_place (first_end lines p) (last_end lines p) ≡ false

-- ---- cover
abbrev pub same_side : Facing → Facing → Bool
same_side Along Along = true
same_side Along Against = false
same_side Against Along = false
same_side Against Against = true

-- the piece covers the step k of a side of a line
abbrev pub covers : List Edge → ℕ → Facing → ℕ → Piece → Bool
covers lines line side k p =
    nat_eq p.line line && same_side p.side side &&
    step_within (edge_of lines p) (first_end lines p) (last_end lines p) k

-- how many pieces of a list cover it
abbrev pub cover : List Edge → ℕ → Facing → ℕ → List Piece → ℕ
cover lines line side k ps = count_by (covers lines line side k) ps
