-- The heights of floors, and the steps of the scale by which sectors are filled.
use Rattle.std.specs.Prelude.{ℕ, ◌+◌, ◌-◌, ◌*◌, ◌/◌, min, fold, Option, Some, None, ℤ, pos, ◌-ℤ◌, ◌+ℤ◌, unsigned_abs}
use Rattle.std.specs.Int.{int_max, int_min}
use Rattle.lump_records.specs.declared.records.Sector.{Sector}
use Rattle.map_tables.specs.Tables.{Tables}
use Rattle.map_picture.specs.declared.floors.Heights.{Heights}

-- the heights with one more
abbrev pub heights_with : Heights → ℤ → Heights
heights_with h floor = record { low = int_min h.low floor; high = int_max h.high floor }

-- the heights, if there are such, with the floor of one more sector
abbrev pub with_floor : Option Heights → Sector → Option Heights
with_floor None s = Some (record { low = s.floor; high = s.floor })
with_floor (Some h) s = Some (heights_with h s.floor)

-- the heights from the least floor of a map to the greatest, if it has a sector
abbrev pub floor_heights : Tables → Option Heights
floor_heights m = fold with_floor None m.sectors

-- how many heights there are
abbrev pub count_of_heights : Heights → ℕ
count_of_heights h = unsigned_abs (h.high -ℤ h.low) + 1

-- how many steps the scale has: 8, or one for each height if there are fewer
abbrev pub step_count : Heights → ℕ
step_count h = min (count_of_heights h) 8

-- the step of a floor: the steps divide the heights as evenly as whole numbers can
abbrev pub step_of_floor : Heights → ℤ → ℕ
step_of_floor h floor = unsigned_abs (floor -ℤ h.low) * step_count h / count_of_heights h

-- the colour of a step, from 0 to 7: those of few steps are apart
abbrev pub colour_of : Heights → ℕ → ℕ
colour_of h step = step * 8 / step_count h

-- the colour of a floor
abbrev pub floor_colour : Heights → ℤ → ℕ
floor_colour h floor = colour_of h (step_of_floor h floor)

-- the least height of a step
abbrev pub first_height : Heights → ℕ → ℤ
first_height h step =
    h.low +ℤ pos ((step * count_of_heights h + (step_count h - 1)) / step_count h)

-- the greatest height of a step
abbrev pub last_height : Heights → ℕ → ℤ
last_height h step = first_height h (step + 1) -ℤ pos 1
