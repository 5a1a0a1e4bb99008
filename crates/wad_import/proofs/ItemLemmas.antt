-- A single vertex, sector, side or thing after the changes is one of a map.
use Rattle.std.proofs.Common.{◌≡◌, ℕ, ◌-◌, ◌%◌, ◌<◌, Bool, true, false, ◌&&◌, cond, refl, arith, lit<}
use Rattle.std.specs.Prelude.{ℤ, pos, negsuc, int_le, int_lt, ◌≤ℤ◌}
use Rattle.std.proofs.lemmas.Bool.{and_parts}
use Rattle.std.proofs.lemmas.Int.{ints}
use Rattle.lump_records.specs.Drawing.{IsBetween, IsCoordinate}
use Rattle.lump_records.specs.Things.{thing_place}
use Rattle.lump_records.specs.declared.records.Thing.{Thing}
use Rattle.lump_records.specs.declared.records.Side.{Side}
use Rattle.lump_records.specs.declared.records.Vertex.{Vertex}
use Rattle.lump_records.specs.declared.records.Sector.{Sector}
use Rattle.lump_records.proofs.DrawingLemmas.{drawable}
use Rattle.wad_levels.specs.Drawn.{is_coordinate, is_drawable}
use Rattle.map_tables.specs.Ranges.{IsVertex}
use Rattle.std.proofs.Math.Nat.{mod-lt}
use Rattle.wad_import.specs.Mended.{is_kept, mended_angle, mended_light, mended_sector, mended_side, mended_thing}
use Rattle.wad_import.specs.Refused.{has_flat_names, has_sector_codes, has_texture_names, is_nameable}
use Rattle.wad_import.specs.Added.{HasSectorRanges, HasSideRanges, HasThingRanges}
use Rattle.wad_import.proofs.NameFacts.{named}

-- ---- Single items

above : (a b : ℤ) → int_le a b ≡ true → a ≤ℤ b
above a b h = grind (arith, ints)

coordinate : (z : ℤ) → is_coordinate z ≡ true → IsCoordinate z
coordinate z h =
    let parts = and_parts (int_le (negsuc 16383) z) (int_le z (pos 16383)) h in
    record { at_least = above (negsuc 16383) z parts.0; at_most = above z (pos 16383) parts.1 }

pub drawn_vertex_is : (v : Vertex) → is_drawable v ≡ true → IsVertex v
drawn_vertex_is v h =
    let parts = and_parts (is_coordinate v.x) (is_coordinate v.y) h in
    drawable v (coordinate v.x parts.0) (coordinate v.y parts.1)

light_by : (z : ℤ) (t u : Bool) → int_lt z (pos 0) ≡ t → int_lt (pos 255) z ≡ u → IsBetween (pos 0) (pos 255) (cond t (pos 0) (cond u (pos 255) z))
light_by z true u e f = record { at_least = omega (arith, ints); at_most = omega (arith, ints) }
light_by z false true e f = record { at_least = omega (arith, ints); at_most = omega (arith, ints) }
light_by z false false e f = record { at_least = grind (arith, ints); at_most = grind (arith, ints) }

light_is : (z : ℤ) → IsBetween (pos 0) (pos 255) (mended_light z)
light_is z = light_by z (int_lt z (pos 0)) (int_lt (pos 255) z) refl refl

angle_of : (n : ℕ) → n < 360 → IsBetween (pos 0) (pos 359) (pos n)
angle_of n h = record { at_least = omega (arith, ints); at_most = omega (arith, ints) }

angle_is : (z : ℤ) → IsBetween (pos 0) (pos 359) (mended_angle z)
angle_is (pos n) = angle_of (n % 360) (mod-lt n (lit< tt))
angle_is (negsuc n) = angle_of (360 - 1 - n % 360) (omega arith)

pub sector_is : (s : Sector) → has_flat_names s ≡ true → has_sector_codes s ≡ true → HasSectorRanges (mended_sector s)
sector_is s names codes =
    let flats = and_parts (is_nameable s.floor_name) (is_nameable s.ceiling_name) names in
    let numbers = and_parts (int_le (pos 0) s.special) (int_le (pos 0) s.tag) codes in
    record {
      floor_name = named s.floor_name flats.0;
      ceiling_name = named s.ceiling_name flats.1;
      light = light_is s.light;
      special = above (pos 0) s.special numbers.0;
      tag = above (pos 0) s.tag numbers.1;
    }

pub side_is : (s : Side) → has_texture_names s ≡ true → s.sector < 4096 → HasSideRanges (mended_side s)
side_is s names within =
    let parts = and_parts (is_nameable s.upper && is_nameable s.lower) (is_nameable s.middle) names in
    let two = and_parts (is_nameable s.upper) (is_nameable s.lower) parts.0 in
    record {
      upper = named s.upper two.0;
      lower = named s.lower two.1;
      middle = named s.middle parts.1;
      sector = omega arith;
    }

pub thing_is : (t : Thing) → is_kept t ≡ true → HasThingRanges (mended_thing t)
thing_is t h =
    let three = and_parts (is_drawable (thing_place t) && int_le (pos 0) t.kind) (int_le (pos 0) t.options) h in
    let two = and_parts (is_drawable (thing_place t)) (int_le (pos 0) t.kind) three.0 in
    let both = and_parts (is_coordinate t.x) (is_coordinate t.y) two.0 in
    record {
      x = coordinate t.x both.0;
      y = coordinate t.y both.1;
      angle = angle_is t.angle;
      kind = above (pos 0) t.kind two.1;
      options = above (pos 0) t.options three.1;
    }
