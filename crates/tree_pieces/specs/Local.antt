-- What a ray makes of a piece of a line: the same as `parts_of`, by the ray and the line alone.
use Rattle.std.specs.Prelude.{Bool, true, false, if◌then◌else◌, ℤ, pos, neg_ℤ, ◌≤ℤ◌, int_lt, Option, Some, None}
use Rattle.lump_records.specs.declared.plane.Ray.{Ray}
use Rattle.tree_pieces.specs.declared.edge.Edge.{Edge}
use Rattle.tree_pieces.specs.declared.frac.Frac.{Frac}
use Rattle.tree_pieces.specs.declared.piece.Piece.{Piece}
use Rattle.tree_pieces.specs.declared.piece.Parts.{Parts}
use Rattle.tree_pieces.specs.declared.piece.Place.{Place}
use Rattle.tree_pieces.specs.declared.piece.Place.TheVariants.{Right, Left, Across}
use Rattle.tree_pieces.specs.Plane.{ray, dot, IsDrawable}
use Rattle.tree_pieces.specs.Fractions.{exact_value, crossing, point_at, IsFraction, IsBelow}
use Rattle.tree_pieces.specs.Pieces.{same_place}
use Rattle.tree_pieces.specs.Division.{place_by}

-- the ray of a line that a map may have: it starts at a place that can be drawn, and isn't too long
pub record IsLineRay (r : Ray) : Type 0 where
  pub start : IsDrawable r.start
  pub short : dot r r ≤ℤ pos 1073676289

-- the size of a side value: that of a place that can be drawn, by the ray of a line
pub record IsSideValue (z : ℤ) : Type 0 where
  pub low : neg_ℤ (pos 2147483648) ≤ℤ z
  pub high : z ≤ℤ pos 2147483648

-- a share of a fraction's denominator
pub record IsShare (z : ℤ) : Type 0 where
  pub low : pos 0 ≤ℤ z
  pub high : z ≤ℤ pos 1073676289

-- a piece's fractions are fractions, and rise
pub record HasFractions (p : Piece) : Type 0 where
  pub from : IsFraction p.from
  pub to : IsFraction p.to
  pub rising : IsBelow p.from p.to

-- on which side of a ray a piece of a line lies
abbrev pub place_on : Ray → Edge → Piece → Place
place_on r e p = place_by (exact_value r e p.from) (exact_value r e p.to) (dot r (ray e p.side))

-- a part of a line is left out where its ends round to one place
abbrev pub kept_on : Edge → Piece → Option Piece
kept_on e p = (if same_place (point_at e p.from) (point_at e p.to) then None else Some p)

-- the parts of a piece of a line cut at a fraction, by whether it starts on the right
abbrev pub cut_on : Edge → Piece → Frac → Bool → Parts
cut_on e p at true =
    record { right = kept_on e (record p { to = at }); left = kept_on e (record p { from = at }) }
cut_on e p at false =
    record { right = kept_on e (record p { from = at }); left = kept_on e (record p { to = at }) }

-- the parts at this place
abbrev pub parts_at : Ray → Edge → Piece → Place → Parts
parts_at r e p Right = record { right = Some p; left = None }
parts_at r e p Left = record { right = None; left = Some p }
parts_at r e p Across = cut_on e p (crossing r e) (int_lt (pos 0) (exact_value r e p.from))

-- the parts that a ray makes of a piece of a line
abbrev pub parts_on : Ray → Edge → Piece → Parts
parts_on r e p = parts_at r e p (place_on r e p)
