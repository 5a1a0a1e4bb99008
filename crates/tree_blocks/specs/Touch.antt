-- A line touches a block: some point of it lies in the closed square with a lower left corner and
-- side 128.
use Rattle.std.specs.Prelude.{ℤ, pos, List, [], ◌∷◌, ◌+ℤ◌, ◌-ℤ◌, ◌*ℤ◌, ◌≤ℤ◌, ◌⊎◌, All, neg_ℤ}
use Rattle.lump_records.specs.declared.records.Vertex.{Vertex}
use Rattle.lump_records.specs.declared.plane.Point.{Point}
use Rattle.lump_records.specs.Plane.{ray_between, IsOnRight, IsOnLeft}

-- the side of a block
abbrev pub block_side : ℤ
block_side = pos 128

-- the point n/d of the way from a to b has a coordinate from `low` to `low + 128`
pub record MeetsSpan (n d a b low : ℤ) : Type 0 where
  pub at_least : (d *ℤ low) ≤ℤ (d *ℤ a +ℤ n *ℤ (b -ℤ a))
  pub at_most : (d *ℤ a +ℤ n *ℤ (b -ℤ a)) ≤ℤ (d *ℤ (low +ℤ block_side))

-- some point of the line from a to b lies in the block
pub record Touches (a b : Vertex) (left bottom : ℤ) : Type 0 where
  pub n : ℤ
  pub d : ℤ
  pub from_start : pos 0 ≤ℤ n
  pub to_end : n ≤ℤ d
  pub positive : pos 1 ≤ℤ d
  pub across : MeetsSpan n d a.x b.x left
  pub upward : MeetsSpan n d a.y b.y bottom

-- ---- the test: box and corners

-- the span from a to b meets the one from `low` to `low + 128`
pub record SpansMeet (a b low : ℤ) : Type 0 where
  pub not_below : (low ≤ℤ a) ⊎ (low ≤ℤ b)
  pub not_above : (a ≤ℤ (low +ℤ pos 128)) ⊎ (b ≤ℤ (low +ℤ pos 128))

pub record BoxesMeet (a b : Vertex) (left bottom : ℤ) : Type 0 where
  pub across : SpansMeet a.x b.x left
  pub upward : SpansMeet a.y b.y bottom

-- the corners of a block
abbrev pub block_corners : ℤ → ℤ → List Point
block_corners left bottom =
    record { x = left; y = bottom } ∷ record { x = left +ℤ pos 128; y = bottom }
    ∷ record { x = left; y = bottom +ℤ pos 128 }
    ∷ record { x = left +ℤ pos 128; y = bottom +ℤ pos 128 } ∷ []

-- the corners of the block don't all lie strictly on the same side of the line
pub record CornersParted (a b : Vertex) (left bottom : ℤ) : Type 0 where
  pub not_all_right : All (IsOnRight (ray_between a b)) (block_corners left bottom) → ⊥
  pub not_all_left : All (IsOnLeft (ray_between a b)) (block_corners left bottom) → ⊥

-- a block at this coordinate has corners that fit in 32 bits
pub record IsBlockPlace (z : ℤ) : Type 0 where
  pub low : neg_ℤ (pos 2147483648) ≤ℤ z
  pub high : z ≤ℤ pos 2147483519
