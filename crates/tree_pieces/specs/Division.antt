-- How a partition, the whole line of a piece in that piece's direction, divides other pieces.
use Rattle.std.specs.Prelude.{◌≡◌, ℕ, Bool, true, false, ◌&&◌, ◌||◌, if◌then◌else◌, List, [], ◌∷◌, ◌++◌, filter_map, ℤ, pos, ◌≤ℤ◌, int_lt, int_le, Option, Some, None, IfSome, option_to_list}
use Rattle.tree_pieces.specs.declared.edge.Edge.{Edge}
use Rattle.tree_pieces.specs.declared.edge.Facing.{Facing}
use Rattle.tree_pieces.specs.declared.frac.Frac.{Frac}
use Rattle.tree_pieces.specs.declared.piece.Piece.{Piece}
use Rattle.tree_pieces.specs.declared.piece.Parts.{Parts}
use Rattle.tree_pieces.specs.declared.piece.Place.{Place}
use Rattle.tree_pieces.specs.declared.piece.Place.TheVariants.{Right, Left, Across}
use Rattle.tree_pieces.specs.Plane.{LiesOn, dot, RunsWith, RunsAgainst}
use Rattle.tree_pieces.specs.Fractions.{exact_value, AtMost, crossing}
use Rattle.tree_pieces.specs.Pieces.{edge_of, ray_of, first_end, last_end, same_place, IsPiece, cover}

-- the place by the side values of the two exact ends, and where both are 0 by the direction
abbrev pub place_by : (from to direction : ℤ) → Place
place_by from to direction =
    (if int_le (pos 0) from && int_le (pos 0) to &&
    (int_lt (pos 0) from || int_lt (pos 0) to || int_lt (pos 0) direction)
    then Right
    else (if int_le from (pos 0) && int_le to (pos 0) then Left else Across))

-- the side value, by a partition, of the exact point at a fraction of a piece's line, times the
-- denominator
abbrev pub value_by : List Edge → Piece → Piece → Frac → ℤ
value_by lines partition p t = exact_value (ray_of lines partition) (edge_of lines p) t

-- a piece lies along a partition's straight line
abbrev pub LiesAlong : List Edge → Piece → Piece → Type 0
LiesAlong lines partition p = LiesOn (ray_of lines partition) (edge_of lines p)

-- on which side of a partition the exact piece lies; one along it is on the right where it runs
-- with it
abbrev pub place_of_piece : List Edge → Piece → Piece → Place
place_of_piece lines partition p =
    place_by (value_by lines partition p p.from) (value_by lines partition p p.to)
    (dot (ray_of lines partition) (ray_of lines p))

-- a part is left out where its ends round to one place
abbrev pub kept : List Edge → Piece → Option Piece
kept lines p = (if same_place (first_end lines p) (last_end lines p) then None else Some p)

-- the parts of a piece cut at a fraction, by whether it starts on the right
abbrev pub cut_at : List Edge → Piece → Frac → Bool → Parts
cut_at lines p at true =
    record { right = kept lines (record p { to = at }); left = kept lines (record p { from = at }) }
cut_at lines p at false =
    record { right = kept lines (record p { from = at }); left = kept lines (record p { to = at }) }

-- the parts of a piece at this place: one across the partition is cut at the crossing
abbrev pub parts_by : List Edge → Piece → Piece → Place → Parts
parts_by lines partition p Right = record { right = Some p; left = None }
parts_by lines partition p Left = record { right = None; left = Some p }
parts_by lines partition p Across =
    cut_at lines p (crossing (ray_of lines partition) (edge_of lines p))
    (int_lt (pos 0) (value_by lines partition p p.from))

-- the parts that a partition makes of a piece
abbrev pub parts_of : List Edge → Piece → Piece → Parts
parts_of lines partition p = parts_by lines partition p (place_of_piece lines partition p)

-- the right and the left parts of a list, in its order
abbrev pub right_parts : List Edge → Piece → List Piece → List Piece
right_parts lines partition ps = filter_map (λ p. (parts_of lines partition p).right) ps

abbrev pub left_parts : List Edge → Piece → List Piece → List Piece
left_parts lines partition ps = filter_map (λ p. (parts_of lines partition p).left) ps

-- ---- what a division keeps
-- q is a part of the piece p, and a piece itself
pub record IsPartOf (lines : List Edge) (p q : Piece) : Type 0 where
  pub piece : IsPiece lines q
  pub line : q.line ≡ p.line
  pub side : q.side ≡ p.side
  pub from : AtMost p.from q.from
  pub to : AtMost q.to p.to

-- the exact piece lies on the right of the partition, and one along the partition runs with it
pub record LiesInRight (lines : List Edge) (partition p : Piece) : Type 0 where
  pub from : pos 0 ≤ℤ value_by lines partition p p.from
  pub to : pos 0 ≤ℤ value_by lines partition p p.to
  pub direction : LiesAlong lines partition p → RunsWith (ray_of lines partition) (ray_of lines p)

-- the exact piece lies on the left of the partition, and one along the partition runs against it
pub record LiesInLeft (lines : List Edge) (partition p : Piece) : Type 0 where
  pub from : value_by lines partition p p.from ≤ℤ pos 0
  pub to : value_by lines partition p p.to ≤ℤ pos 0
  pub direction : LiesAlong lines partition p →
      RunsAgainst (ray_of lines partition) (ray_of lines p)

-- the pieces that a division gives
abbrev pub parts_list : Parts → List Piece
parts_list parts = option_to_list parts.right ++ option_to_list parts.left

-- each part lies exactly in its half-plane, and together they cover what the piece covers
pub record IsDivided (lines : List Edge) (partition p : Piece) (parts : Parts) : Type 0 where
  pub right : IfSome parts.right (λ q. IsPartOf lines p q × LiesInRight lines partition q)
  pub left : IfSome parts.left (λ q. IsPartOf lines p q × LiesInLeft lines partition q)
  pub cover : (line : ℕ) (side : Facing) (k : ℕ) →
      cover lines line side k (parts_list parts) ≡ cover lines line side k (p ∷ [])
