-- Segs that run along the sides of lines, their fields, and subsectors convex to within rounding.
use Rattle.std.specs.Prelude.{◌≡◌, ◌≢◌, ℕ, ◌+◌, ◌<◌, ◌≤◌, Bool, ◌&&◌, IsTrue, nat_eq, List, length, All, slice_get, slice_index_or, count_by, pos, Some, if◌then◌else◌}
use Rattle.lump_records.specs.declared.records.Vertex.{Vertex}
use Rattle.lump_records.specs.declared.records.Seg.{Seg}
use Rattle.lump_records.specs.declared.records.Sub.{Sub}
use Rattle.tree_pieces.specs.declared.edge.Edge.{Edge}
use Rattle.lump_records.specs.declared.plane.Ray.{Ray}
use Rattle.tree_pieces.specs.declared.edge.Facing.{Facing}
use Rattle.tree_pieces.specs.declared.edge.Facing.TheVariants.{Along, Against}
use Rattle.tree_pieces.specs.declared.frac.Frac.{Frac}
use Rattle.tree_pieces.specs.Plane.{ray, LiesOn, RunsWith, RunsAgainst, NearRight, NearLeft}
use Rattle.tree_pieces.specs.Fractions.{IsFraction, point_at, steps_between, step_within}
use Rattle.tree_pieces.specs.Pieces.{edge_at}
use Rattle.tree_pieces.specs.Angle.{IsAngle}
use Rattle.tree_pieces.specs.Offset.{IsOffset}
use Rattle.tree_pieces.specs.Places.{StandsFirst}

-- side 0 runs along its line, side 1 against it
abbrev pub facing_of : ℕ → Facing
facing_of side = (if nat_eq side 0 then Along else Against)

-- what stands for a vertex that the list does not have
abbrev pub no_vertex : Vertex
no_vertex = record { x = pos 0; y = pos 0 }

-- the seg i is one of the subsector's
abbrev pub InSub : Sub → ℕ → Type 0
InSub sub i = (sub.first ≤ i) × (i < sub.first + sub.count)

-- the seg names the first vertex at the place of each of its ends
abbrev pub NamesFirst : List Vertex → Seg → Type 0
NamesFirst vertices s = StandsFirst vertices s.first × StandsFirst vertices s.second

module _ (lines : List Edge) (vertices : List Vertex) where
  -- the whole line of a seg, and the same in the seg's direction
  abbrev pub seg_edge : Seg → Edge
  seg_edge s = edge_at lines s.line

  abbrev pub seg_ray : Seg → Ray
  seg_ray s = ray (seg_edge s) (facing_of s.side)

  -- the places of its ends
  abbrev pub first_place : Seg → Vertex
  first_place s = slice_index_or vertices s.first no_vertex

  abbrev pub second_place : Seg → Vertex
  second_place s = slice_index_or vertices s.second no_vertex

  -- ---- run along
  -- the seg covers the step k of a side of a line
  abbrev pub seg_covers : ℕ → ℕ → ℕ → Seg → Bool
  seg_covers line side k s =
      nat_eq s.line line && nat_eq s.side side && (if nat_eq side 0
      then step_within (seg_edge s) (first_place s) (second_place s) k
      else step_within (seg_edge s) (second_place s) (first_place s) k)

  -- the place is the rounded point at some fraction of the line
  abbrev pub IsPointOf : Edge → Vertex → Type 0
  IsPointOf e v = (t : Frac) × IsFraction t × (v ≡ point_at e t)

  -- there is such a line, and it has the step k
  abbrev pub HasStep : ℕ → ℕ → Type 0
  HasStep line k =
      (line < length lines) × (k < steps_between (edge_at lines line).v1 (edge_at lines line).v2)

  -- the seg covers some step of its side, so it doesn't run backwards
  abbrev pub CoversStep : Seg → Type 0
  CoversStep s = (k : ℕ) × IsTrue (seg_covers s.line s.side k s)

  -- exactly one seg covers each step of each side, and each covers one; segs run between different
  -- rounded points of their lines, and name the first vertex at each
  pub record RunAlong (segs : List Seg) : Type 0 where
    pub right : (line k : ℕ) → HasStep line k → count_by (seg_covers line 0 k) segs ≡ 1
    pub left : (line k : ℕ) → HasStep line k → IsTrue (edge_at lines line).has_left →
        count_by (seg_covers line 1 k) segs ≡ 1
    pub covering : All CoversStep segs
    pub first : All (λ s. IsPointOf (seg_edge s) (first_place s)) segs
    pub second : All (λ s. IsPointOf (seg_edge s) (second_place s)) segs
    pub ends_differ : All (λ s. first_place s ≢ second_place s) segs
    pub firsts : All (NamesFirst vertices) segs

  -- ---- fields
  -- the angle of the seg's direction, and how far its first place is from where its side starts
  pub record HasFields (s : Seg) : Type 0 where
    pub angle : IsAngle (seg_ray s).dx (seg_ray s).dy s.angle
    pub offset : IsOffset (seg_ray s).start (first_place s) s.offset

  -- ---- convex
  -- both ends of the seg lie on the right of the ray to within rounding; one along it runs with it
  pub record SegLiesRight (r : Ray) (s : Seg) : Type 0 where
    pub first_near : NearRight r (first_place s)
    pub second_near : NearRight r (second_place s)
    pub not_opposite : LiesOn r (seg_edge s) → RunsWith r (seg_ray s)

  -- both ends lie on the left to within rounding; one along the ray runs against it
  pub record SegLiesLeft (r : Ray) (s : Seg) : Type 0 where
    pub first_near : NearLeft r (first_place s)
    pub second_near : NearLeft r (second_place s)
    pub opposite : LiesOn r (seg_edge s) → RunsAgainst r (seg_ray s)

  -- each seg of the subsector lies on the right of each
  abbrev pub IsConvexSub : List Seg → Sub → Type 0
  IsConvexSub segs sub =
      (i j : ℕ) (s t : Seg) → InSub sub i → InSub sub j →
      slice_get segs i ≡ Some s → slice_get segs j ≡ Some t → SegLiesRight (seg_ray s) t
