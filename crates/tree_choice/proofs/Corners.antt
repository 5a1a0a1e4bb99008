-- The corners of a box with the least and the greatest side value by a ray, and their columns.
use Rattle.std.proofs.Common.{◌≡◌, sym, ap, ◌∙◌, ℕ, Bool, true, false, List, arith}
use Rattle.std.proofs.lemmas.Int.{ints, to_z-of_z}
use Rattle.std.specs.Prelude.{map, if◌then◌else◌, ℤ, pos, neg_ℤ, ◌-ℤ◌, ◌*ℤ◌, ◌<ℤ◌, int_le, FitsSigned}
use Rattle.std.specs.Int.{w16}
use mir.Val.{to_z, of_z}
use Rattle.lump_records.specs.declared.records.Bounds.{Bounds}
use Rattle.lump_records.specs.declared.records.Vertex.{Vertex}
use Rattle.lump_records.specs.declared.plane.Ray.{Ray}
use Rattle.tree_pieces.specs.Plane.{vertex_value}
use Rattle.tree_pieces.specs.Boxes.{ray_offset, least_value, greatest_value}
use Rattle.tree_choice.specs.Sights.{low_corner, high_corner}
use Rattle.tree_choice.specs.Columns.{left_top, left_bottom, right_top, right_bottom}
use Rattle.tree_choice.proofs.FarPlaces.{offset_off}

module _ (r : Ray) (b : Bounds) where
  by_signs : (north east : Bool) (x u y v : ℤ) → vertex_value r (record { x = (if north then x else u); y = (if east then y else v) })
      ≡ (if north then r.dy *ℤ x else r.dy *ℤ u) -ℤ (if east then r.dx *ℤ y else r.dx *ℤ v) -ℤ ray_offset r
  by_signs true true x u y v = sym (offset_off r (record { x = x; y = y }))
  by_signs true false x u y v = sym (offset_off r (record { x = x; y = v }))
  by_signs false true x u y v = sym (offset_off r (record { x = u; y = y }))
  by_signs false false x u y v = sym (offset_off r (record { x = u; y = v }))

  pub low_is : vertex_value r (low_corner r b) ≡ least_value r b
  low_is = by_signs (int_le (pos 0) r.dy) (int_le (pos 0) r.dx) b.left b.right b.top b.bottom

  pub high_is : vertex_value r (high_corner r b) ≡ greatest_value r b
  high_is = by_signs (int_le (pos 0) r.dy) (int_le (pos 0) r.dx) b.right b.left b.bottom b.top

-- a place that is read from a column, by its two coordinates
pub place_by_16 : (u v : Vertex) → FitsSigned w16 u.x → FitsSigned w16 u.y → u ≡ v → record { x = to_z w16 (of_z w16 u.x); y = to_z w16 (of_z w16 u.y) } ≡ v
place_by_16 u v fx fy e =
    let made : ℤ → ℤ → Vertex = λ x y. record { x = x; y = y } in
    ap (λ (x : ℤ). made x (to_z w16 (of_z w16 u.y))) (to_z-of_z w16 u.x fx) ∙ ap (made u.x) (to_z-of_z w16 u.y fy) ∙ e

-- what is read where a column has no place
abbrev pub no_vertex : Vertex
no_vertex = record { x = pos 0; y = pos 0 }

-- twice a value beyond a blur is beyond 0
pub above_blur : (n : ℕ) (x : ℤ) → pos n <ℤ (pos 2 *ℤ x) → pos 0 <ℤ x
above_blur n x h = omega (arith, ints)

pub below_blur : (n : ℕ) (x : ℤ) → (pos 2 *ℤ x) <ℤ neg_ℤ (pos n) → x <ℤ pos 0
below_blur n x h = omega (arith, ints)

-- the columns that the signs choose: those of the corners with the least side values
pub chosen : (north east : Bool) (boxes : List Bounds) (lt lb rt rb one other : List Vertex)
    → one ≡ (if east then lt else lb) → other ≡ (if east then rt else rb)
    → lt ≡ map left_top boxes → lb ≡ map left_bottom boxes → rt ≡ map right_top boxes → rb ≡ map right_bottom boxes
    → (if north then one else other) ≡ map (λ b. record { x = (if north then b.left else b.right); y = (if east then b.top else b.bottom) }) boxes
chosen true true boxes lt lb rt rb one other f g a b c d = f ∙ a
chosen true false boxes lt lb rt rb one other f g a b c d = f ∙ b
chosen false true boxes lt lb rt rb one other f g a b c d = g ∙ c
chosen false false boxes lt lb rt rb one other f g a b c d = g ∙ d

-- and with the greatest ones
pub chosen_other : (north east : Bool) (boxes : List Bounds) (lt lb rt rb one other : List Vertex)
    → one ≡ (if east then rb else rt) → other ≡ (if east then lb else lt)
    → lt ≡ map left_top boxes → lb ≡ map left_bottom boxes → rt ≡ map right_top boxes → rb ≡ map right_bottom boxes
    → (if north then one else other) ≡ map (λ b. record { x = (if north then b.right else b.left); y = (if east then b.bottom else b.top) }) boxes
chosen_other true true boxes lt lb rt rb one other f g a b c d = f ∙ d
chosen_other true false boxes lt lb rt rb one other f g a b c d = f ∙ c
chosen_other false true boxes lt lb rt rb one other f g a b c d = g ∙ b
chosen_other false false boxes lt lb rt rb one other f g a b c d = g ∙ a
