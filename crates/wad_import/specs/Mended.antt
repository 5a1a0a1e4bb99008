-- What each item of a level is after the changes that make the level a map (docs/FORMAT.md,
-- "A map of a WAD's level").
use Rattle.std.specs.Prelude.{ℕ, ◌-◌, ℤ, pos, int_le, int_lt, Bool, if◌then◌else◌, not, ◌&&◌, ◌==◌, length, codes}
use Rattle.std.specs.Int.{int_rem_euclid}
use Rattle.lump_records.specs.Names.{name_of, name_text}
use Rattle.lump_records.specs.Sides.{has_left, is_two_sided}
use Rattle.lump_records.specs.Things.{thing_place}
use Rattle.lump_records.specs.declared.records.Name8.{Name8}
use Rattle.lump_records.specs.declared.records.Thing.{Thing}
use Rattle.lump_records.specs.declared.records.Line.{Line}
use Rattle.lump_records.specs.declared.records.Side.{Side}
use Rattle.lump_records.specs.declared.records.Sector.{Sector}
use Rattle.wad_levels.specs.Drawn.{is_drawable}
use Rattle.wad_levels.specs.Graphics.{capital_name}

-- the name in capitals up to its first NUL, and `-` where that leaves nothing
abbrev pub mended_name : Name8 → Name8
mended_name name =
    if length (name_text name) == 0 then name_of (codes "-") else capital_name name

-- the nearer end of 0 to 255
abbrev pub mended_light : ℤ → ℤ
mended_light z =
    if int_lt z (pos 0) then pos 0 else (if int_lt (pos 255) z then pos 255 else z)

-- the angle modulo 360
abbrev pub mended_angle : ℤ → ℤ
mended_angle z = int_rem_euclid z (pos 360)

abbrev pub mended_sector : Sector → Sector
mended_sector s =
    record s {
      floor_name = mended_name s.floor_name;
      ceiling_name = mended_name s.ceiling_name;
      light = mended_light s.light;
    }

abbrev pub mended_side : Side → Side
mended_side s =
    record s {
      upper = mended_name s.upper;
      lower = mended_name s.lower;
      middle = mended_name s.middle;
    }

-- the line has the flag of two sides, and no left side
abbrev pub lacks_left_side : Line → Bool
lacks_left_side x = is_two_sided x && not (has_left x)

-- the line, without that flag where it has no left side
abbrev pub mended_line : Line → Line
mended_line x = if lacks_left_side x then record x { flags = x.flags - 4 } else x

-- the line after the changes, between the vertices that have these numbers in the map
abbrev pub linked_line : (ℕ → ℕ) → Line → Line
linked_line number x = record (mended_line x) { v1 = number x.v1; v2 = number x.v2 }

-- the thing stands at coordinates, and neither its type nor its options are negative
abbrev pub is_kept : Thing → Bool
is_kept t = is_drawable (thing_place t) && int_le (pos 0) t.kind && int_le (pos 0) t.options

abbrev pub mended_thing : Thing → Thing
mended_thing t = record t { angle = mended_angle t.angle }
