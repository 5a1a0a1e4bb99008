-- Walls that show rows past the last one of their textures.
use Rattle.std.specs.Prelude.{◌&&◌, Bool, List, None, Option, ℕ, ℤ, false, if◌then◌else◌, not}
use Rattle.std.specs.Option.{option_map_or}
use Rattle.lump_records.specs.Sides.{is_two_sided}
use Rattle.lump_records.specs.declared.records.Line.{Line}
use Rattle.lump_records.specs.declared.records.Name8.{Name8}
use Rattle.lump_records.specs.declared.records.Sector.{Sector}
use Rattle.lump_records.specs.declared.records.Side.{Side}
use Rattle.lump_textures.specs.Named.{texture_named}
use Rattle.lump_textures.specs.declared.texture.Texture.{Texture}
use Rattle.map_tables.specs.Tables.{Tables}
use Rattle.map_checks.specs.Textures.{is_missing, lower_shows, own_side, sector_faced, side_behind, side_in, upper_shows}
use Rattle.map_lint.specs.Rows.{go_past, lower_rows, middle_rows, upper_rows}
use Rattle.map_lint.specs.declared.rows.Rows.{Rows}
use Rattle.map_lint.specs.declared.wall.Part.{Part}
use Rattle.map_lint.specs.declared.wall.Part.TheVariants.{Upper, Lower, Middle}
use Rattle.map_lint.specs.declared.wall.Wall.{Wall}

-- the texture that the name means, where it isn't "no texture"
abbrev pub texture_shown : List Texture → Name8 → Option Texture
texture_shown textures name =
    if not (is_missing name) then texture_named textures name else None

-- the texture of the name is known, and the rows that a wall shows of it go past its last one
abbrev pub shows_past : List Texture → Name8 → (ℤ → Rows) → Bool
shows_past textures name rows =
    option_map_or (λ t. go_past t.height (rows t.height)) (texture_shown textures name) false

-- the middle wall of a side, which faces the sector s
abbrev pub middle_short : List Texture → Line → Side → Sector → Bool
middle_short textures l own s = shows_past textures own.middle (middle_rows l own s)

-- the upper wall of a side, which faces the sector s before the sector t
abbrev pub upper_short : List Texture → Line → Side → Sector → Sector → Bool
upper_short textures l own s t =
    upper_shows s t && shows_past textures own.upper (upper_rows l own s t)

-- its lower wall
abbrev pub lower_short : List Texture → Line → Side → Sector → Sector → Bool
lower_short textures l own s t =
    lower_shows s t && shows_past textures own.lower (λ height. lower_rows l own s t)

-- the part of the side `own`, in front of the side `behind`: the upper or lower wall of a two-sided line, and the
-- middle wall of any other
abbrev pub part_short : List Texture → Tables → Line → ℕ → ℕ → Part → Bool
part_short textures m l own behind Upper = is_two_sided l
    && upper_short textures l (side_in m own) (sector_faced m own) (sector_faced m behind)
part_short textures m l own behind Lower = is_two_sided l
    && lower_short textures l (side_in m own) (sector_faced m own) (sector_faced m behind)
part_short textures m l own behind Middle =
    not (is_two_sided l) && middle_short textures l (side_in m own) (sector_faced m own)

-- the wall shows rows past the last one of its texture
abbrev pub wall_short : List Texture → Tables → Line → Wall → Bool
wall_short textures m l w =
    part_short textures m l (own_side l w.is_left) (side_behind l w.is_left) w.part
