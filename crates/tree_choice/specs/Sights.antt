-- What a candidate's ray is asked again and again, and the corners of boxes.
use Rattle.std.specs.Prelude.{◌≡◌, neg_ℤ, if◌then◌else◌, pos, ◌+ℤ◌, ◌-ℤ◌, ◌*ℤ◌, ◌≤ℤ◌, int_le}
use Rattle.lump_records.specs.declared.records.Vertex.{Vertex}
use Rattle.lump_records.specs.declared.records.Bounds.{Bounds}
use Rattle.lump_records.specs.declared.plane.Ray.{Ray}
use Rattle.tree_pieces.specs.Plane.{blur}
use Rattle.tree_pieces.specs.Local.{IsLineRay}
use Rattle.tree_pieces.specs.Boxes.{ray_offset}
use Rattle.tree_choice.specs.declared.margins.Margins.{Margins}
use Rattle.tree_choice.specs.declared.margins.Normal.{Normal}

-- the vector at right angles to a ray, towards its right side
pub record IsNormal (r : Ray) (n : Normal) : Type 0 where
  pub x : n.x ≡ r.dy
  pub y : n.y ≡ neg_ℤ r.dx

-- the margins of the ray of a line are at least half of its blur, rounded down, above and below the
-- value of its origin
pub record AreMargins (m : Margins) : Type 0 where
  pub line : IsLineRay m.ray
  pub normal : IsNormal m.ray m.normal
  pub right : pos (blur m.ray) ≤ℤ (pos 2 *ℤ (m.above -ℤ ray_offset m.ray) +ℤ pos 1)
  pub left : pos (blur m.ray) ≤ℤ (pos 2 *ℤ (ray_offset m.ray -ℤ m.below) +ℤ pos 1)
  pub order : m.below ≤ℤ m.above

-- the corners of a box with the least and with the greatest side value by a ray
abbrev pub low_corner : Ray → Bounds → Vertex
low_corner r b =
    record {
      x = (if int_le (pos 0) r.dy then b.left else b.right);
      y = (if int_le (pos 0) r.dx then b.top else b.bottom);
    }

abbrev pub high_corner : Ray → Bounds → Vertex
high_corner r b =
    record {
      x = (if int_le (pos 0) r.dy then b.right else b.left);
      y = (if int_le (pos 0) r.dx then b.bottom else b.top);
    }
