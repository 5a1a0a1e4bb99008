-- The textures that a map's sides miss: those that are visible and have no name.
use Rattle.std.specs.Prelude.{ℕ, Bool, true, false, ◌&&◌, not, if◌then◌else◌, List, [], ◌∷◌, ◌++◌, map, filter, get_or, pos, int_lt, codes, bytes_eq}
use Rattle.lump_records.specs.declared.records.Name8.{Name8}
use Rattle.lump_records.specs.declared.records.Line.{Line}
use Rattle.lump_records.specs.declared.records.Side.{Side}
use Rattle.lump_records.specs.declared.records.Sector.{Sector}
use Rattle.map_tables.specs.Tables.{Tables}
use Rattle.lump_records.specs.Names.{name_of, name_text}
use Rattle.lump_records.specs.Sides.{has_left, is_two_sided}
use Rattle.map_checks.specs.declared.finding.Texture.{Texture}
use Rattle.map_checks.specs.declared.finding.Texture.TheVariants.{Upper, Lower, Middle}
use Rattle.map_checks.specs.declared.finding.Finding.{Finding}
use Rattle.map_checks.specs.declared.finding.Finding.TheVariants.{TextureMissing}

-- the name that means "no texture"
abbrev pub nameless : Name8
nameless = name_of (codes "-")

-- what stands for a side or a sector whose number is past the last one
abbrev pub some_side : Side
some_side =
    record {
      x_offset = pos 0;
      y_offset = pos 0;
      upper = nameless;
      lower = nameless;
      middle =
          nameless;
      sector = 0;
    }

-- a sector, for a side that has none
abbrev pub some_sector : Sector
some_sector =
    record {
      floor = pos 0;
      ceiling = pos 0;
      floor_name = nameless;
      ceiling_name = nameless;
      light = pos 0;
      special = pos 0;
      tag = pos 0;
    }

-- the side with a number
abbrev pub side_in : Tables → ℕ → Side
side_in m n = get_or m.sides n some_side

-- the sector that the side with a number faces
abbrev pub sector_faced : Tables → ℕ → Sector
sector_faced m side = get_or m.sectors (side_in m side).sector some_sector

-- whether a name means "no texture"
abbrev pub is_missing : Name8 → Bool
is_missing n = bytes_eq (name_text n) (codes "-")

-- whether a sector's ceiling is the sky
abbrev pub is_sky : Sector → Bool
is_sky s = bytes_eq (name_text s.ceiling_name) (codes "F_SKY1")

-- the number of one side of a line, and of the side opposite to it
abbrev pub own_side : Line → Bool → ℕ
own_side l left = if left then l.left else l.right

-- the side on the other side of a line
abbrev pub side_behind : Line → Bool → ℕ
side_behind l left = if left then l.right else l.left

-- whether the wall above a lower ceiling is visible from the higher sector s: not if both ceilings are the sky
abbrev pub upper_shows : Sector → Sector → Bool
upper_shows s t = int_lt t.ceiling s.ceiling && not (is_sky s && is_sky t)

-- whether the wall below a higher floor is visible from the lower sector s
abbrev pub lower_shows : Sector → Sector → Bool
lower_shows s t = int_lt s.floor t.floor

-- whether the side `own`, opposite to the side `behind`, misses its upper texture
abbrev pub misses_upper : Tables → ℕ → ℕ → Bool
misses_upper m own behind = upper_shows (sector_faced m own) (sector_faced m behind)
    && is_missing (side_in m own).upper

-- whether the side `own`, opposite to the side `behind`, misses its lower texture
abbrev pub misses_lower : Tables → ℕ → ℕ → Bool
misses_lower m own behind = lower_shows (sector_faced m own) (sector_faced m behind)
    && is_missing (side_in m own).lower

-- Whether one side of a line misses a texture: the middle one if the line isn't two-sided, the upper or lower one
-- if it is.
abbrev pub misses : Tables → Line → Bool → Texture → Bool
misses m l left Upper = is_two_sided l && misses_upper m (own_side l left) (side_behind l left)
misses m l left Lower = is_two_sided l && misses_lower m (own_side l left) (side_behind l left)
misses m l left Middle = not (is_two_sided l) && is_missing (side_in m (own_side l left)).middle

-- a side's textures, in the order of their findings
abbrev pub textures : List Texture
textures = Upper ∷ Lower ∷ Middle ∷ []

-- what one side of line n misses
abbrev pub side_misses : Tables → ℕ → Line → Bool → List Finding
side_misses m n l left = map (λ t. TextureMissing n left t) (filter (misses m l left) textures)

-- what line n misses, on its right and then on its left
abbrev pub line_misses : Tables → ℕ × Line → List Finding
line_misses m (n, l) = side_misses m n l false
    ++ (if has_left l then side_misses m n l true else [])
