-- Which rows of a texture a wall shows, as the engine of 1997 draws it (its r_segs.c and r_draw.c).
use Rattle.std.specs.Prelude.{◌/◌, ◌%◌, ◌&&◌, ◌==◌, Bool, if◌then◌else◌, ℤ, pos, ◌+ℤ◌, ◌-ℤ◌, int_lt}
use Rattle.std.specs.Int.{int_rem_euclid}
use Rattle.lump_records.specs.declared.records.Line.{Line}
use Rattle.lump_records.specs.declared.records.Sector.{Sector}
use Rattle.lump_records.specs.declared.records.Side.{Side}
use Rattle.map_checks.specs.Textures.{is_sky}
use Rattle.map_lint.specs.declared.rows.Rows.{Rows}

-- the flag that says that the upper wall's first row is at its top
abbrev pub is_upper_unpegged : Line → Bool
is_upper_unpegged l = (l.flags / 8 % 2) == 1

-- the flag for walls that reach the floor: the middle wall's last row is at the floor, and the rows
-- of the lower wall are counted from the ceiling
abbrev pub is_lower_unpegged : Line → Bool
is_lower_unpegged l = (l.flags / 16 % 2) == 1

-- a wall's first row where its last row is the last of a texture with so many
abbrev pub row_from_end : ℤ → ℤ → ℤ → ℤ
row_from_end offset height count = offset +ℤ (height -ℤ count)

-- the first row of a middle wall, from the ceiling of its sector to the floor
abbrev pub middle_first : Line → Side → Sector → ℤ → ℤ
middle_first l own s height =
    if is_lower_unpegged l then row_from_end own.y_offset height (s.ceiling -ℤ s.floor)
    else own.y_offset

-- the rows of a middle wall of a texture with so many
abbrev pub middle_rows : Line → Side → Sector → ℤ → Rows
middle_rows l own s height = record {
  first = middle_first l own s height;
  count = s.ceiling -ℤ s.floor;
}

-- the first row of an upper wall, from the ceiling of the sector s that it faces to that of t
abbrev pub upper_first : Line → Side → Sector → Sector → ℤ → ℤ
upper_first l own s t height =
    if is_upper_unpegged l then own.y_offset
    else row_from_end own.y_offset height (s.ceiling -ℤ t.ceiling)

-- the rows of an upper wall of a texture with so many
abbrev pub upper_rows : Line → Side → Sector → Sector → ℤ → Rows
upper_rows l own s t height = record {
  first = upper_first l own s t height;
  count = s.ceiling -ℤ t.ceiling;
}

-- where the rows of an unpegged lower wall begin: at the ceiling of the sector that it faces, or, if
-- both ceilings are the sky, at the other one
abbrev pub wall_top : Sector → Sector → ℤ
wall_top s t = if is_sky s && is_sky t then t.ceiling else s.ceiling

-- the first row of a lower wall, from the floor of t to that of the sector s that it faces
abbrev pub lower_first : Line → Side → Sector → Sector → ℤ
lower_first l own s t =
    if is_lower_unpegged l then own.y_offset +ℤ (wall_top s t -ℤ t.floor) else own.y_offset

-- the rows of a lower wall
abbrev pub lower_rows : Line → Side → Sector → Sector → Rows
lower_rows l own s t = record { first = lower_first l own s t; count = t.floor -ℤ s.floor }

-- the row behind a wall's last one, where the first is what the engine keeps of it: its lowest 7 bits
abbrev pub end_row : Rows → ℤ
end_row rows = int_rem_euclid rows.first (pos 128) +ℤ rows.count

-- there are rows, and they go past the last one of a texture with so many, fewer than 128
abbrev pub go_past : ℤ → Rows → Bool
go_past height rows =
    int_lt height (pos 128) && int_lt (pos 0) rows.count && int_lt height (end_row rows)
