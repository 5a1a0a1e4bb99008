-- Exact points, and what it means that two lines have a point in common that isn't an end of both.
use Rattle.std.specs.Prelude.{◌≡◌, ◌≢◌, ◌⊎◌, ◌↔◌, ℤ, pos, ◌+ℤ◌, ◌*ℤ◌, ◌≤ℤ◌, ◌<ℤ◌, true, ◌&&◌}
use Rattle.lump_records.specs.declared.records.Vertex.{Vertex}
use Rattle.map_plane.specs.declared.places.PlacedLine.{PlacedLine}
use Rattle.map_plane.specs.Meeting.{boxes_meet, share}

-- an exact point of the plane, at (x / d, y / d)
pub record ExactPoint : Type 0 where
  pub x : ℤ
  pub y : ℤ
  pub d : ℤ

-- the point is the mean of a line's ends by two weights, neither of them negative
pub record IsMean (l : PlacedLine) (t u : ℤ) (p : ExactPoint) : Type 0 where
  pub from_weight : pos 0 ≤ℤ t
  pub to_weight : pos 0 ≤ℤ u
  pub whole : t +ℤ u ≡ p.d
  pub across : t *ℤ l.from.x +ℤ u *ℤ l.to.x ≡ p.x
  pub upward : t *ℤ l.from.y +ℤ u *ℤ l.to.y ≡ p.y

-- the point lies on the line, ends included
abbrev pub LiesOnLine : PlacedLine → ExactPoint → Type 0
LiesOnLine l p = (t : ℤ) × (u : ℤ) × IsMean l t u p

-- the vertex is at the point
pub record IsVertexAt (v : Vertex) (p : ExactPoint) : Type 0 where
  pub across : p.d *ℤ v.x ≡ p.x
  pub upward : p.d *ℤ v.y ≡ p.y

-- the point is an end of the line
abbrev pub IsEnd : PlacedLine → ExactPoint → Type 0
IsEnd l p = IsVertexAt l.from p ⊎ IsVertexAt l.to p

-- the point lies on both lines, and isn't an end of both
pub record IsCrossing (l k : PlacedLine) (p : ExactPoint) : Type 0 where
  pub positive : pos 0 <ℤ p.d
  pub first : LiesOnLine l p
  pub second : LiesOnLine k p
  pub inside : IsEnd l p → ¬ IsEnd k p

-- two lines have a point in common that isn't an end of both
abbrev pub HaveCrossing : PlacedLine → PlacedLine → Type 0
HaveCrossing l k = (p : ExactPoint) × IsCrossing l k p

-- the tests by side values hold exactly for lines that have such a point, if neither line's ends are at the same
-- place
abbrev pub TestsTellCrossings : Type 0
TestsTellCrossings =
    (l k : PlacedLine) → l.from ≢ l.to → k.from ≢ k.to
    → ((boxes_meet l k && share l k) ≡ true) ↔ HaveCrossing l k
