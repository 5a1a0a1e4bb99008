-- What a WAD's flats and textures say of a map: names that it lacks, and walls that show too many rows.
use Rattle.std.specs.Prelude.{◌≡◌, ℕ, Bool, false, ◌&&◌, ◌||◌, not, if◌then◌else◌, List, [], ◌∷◌, filter_map, find, flat_map, Option, Some, None, option_and_then, option_map, slice_get, codes, bytes_eq, is_some}
use Rattle.std.specs.List.{list_any, range_with_len}
use Rattle.lump_records.specs.Names.{name_text}
use Rattle.lump_records.specs.declared.records.Line.{Line}
use Rattle.lump_records.specs.declared.records.Name8.{Name8}
use Rattle.lump_records.specs.declared.records.Sector.{Sector}
use Rattle.lump_textures.specs.Named.{texture_named}
use Rattle.lump_textures.specs.declared.texture.Texture.{Texture}
use Rattle.map_tables.specs.Tables.{Tables}
use Rattle.map_checks.specs.Textures.{is_missing}
use Rattle.map_lint.specs.declared.graphics.NameSet.{NameSet}
use Rattle.map_lint.specs.declared.shown.Shown.{Shown}
use Rattle.map_lint.specs.declared.wall.Surface.TheVariants.{Floor, Ceiling, OfLine}
use Rattle.map_lint.specs.declared.wall.Wall.{Wall}
use Rattle.map_lint.specs.declared.warning.Rule.{Rule}
use Rattle.map_lint.specs.declared.warning.Rule.TheVariants.{FlatKnown, TextureKnown, TextureReaches, PatchesApart}
use Rattle.map_lint.specs.declared.warning.Warning.{Warning}
use Rattle.map_lint.specs.Patched.{wall_patched}
use Rattle.map_lint.specs.Short.{wall_short}
use Rattle.map_lint.specs.Rules.{reach}
use Rattle.map_lint.specs.Walls.{has_wall, line_walls, name_on}
use Rattle.map_lint.specs.Whereabouts.{whereabouts_of}

-- the name is in the list
abbrev pub is_one_of : List Name8 → Name8 → Bool
is_one_of names n = list_any (λ k. bytes_eq k.bytes n.bytes) names

-- the name is the sky's or a flat's
abbrev pub is_flat_known : List Name8 → Name8 → Bool
is_flat_known flats n = bytes_eq (name_text n) (codes "F_SKY1") || is_one_of flats n

-- the name means "no texture" or is a texture's
abbrev pub is_texture_known : List Texture → Name8 → Bool
is_texture_known textures n = is_missing n || is_some (texture_named textures n)

-- the floor or else the ceiling of the sector, if its flat is unknown, and the flat's name
abbrev pub unknown_flat : List Name8 → Sector → Option Shown
unknown_flat flats s =
    if not (is_flat_known flats s.floor_name)
    then Some (record { surface = Floor; name = s.floor_name })
    else if not (is_flat_known flats s.ceiling_name)
    then Some (record { surface = Ceiling; name = s.ceiling_name })
    else None

-- what the line's wall shows breaks the rule
abbrev pub shows_wrong : List Texture → Tables → Rule → Line → Wall → Bool
shows_wrong textures m TextureKnown l w = not (is_texture_known textures (name_on m l w))
shows_wrong textures m TextureReaches l w = wall_short textures m l w
shows_wrong textures m PatchesApart l w = wall_patched textures m l w
shows_wrong textures m _ l w = false

-- the line has the wall, and what it shows breaks the rule
abbrev pub wall_breaks : List Texture → Tables → Rule → Line → Wall → Bool
wall_breaks textures m rule l w = has_wall l w && shows_wrong textures m rule l w

-- the wall, and the name on it
abbrev pub wall_shown : Tables → Line → Wall → Shown
wall_shown m l w = record { surface = OfLine w; name = name_on m l w }

-- the first wall of the line that breaks the rule, and the name on it
abbrev pub wrong_wall : List Texture → Tables → Rule → Line → Option Shown
wrong_wall textures m rule l =
    option_map (wall_shown m l) (find (wall_breaks textures m rule l) line_walls)

-- what shows on item n that breaks the rule
abbrev pub wrong_on : List Name8 → List Texture → Tables → Rule → ℕ → Option Shown
wrong_on flats textures m FlatKnown n =
    option_and_then (unknown_flat flats) (slice_get m.sectors n)
wrong_on flats textures m rule n =
    option_and_then (wrong_wall textures m rule) (slice_get m.lines n)

-- the warning that item n shows this
abbrev pub warning_of_shown : Tables → Rule → ℕ → Shown → Warning
warning_of_shown m rule n shown = record {
  rule = rule;
  number = n;
  whereabouts = whereabouts_of m rule n;
  shown = Some shown;
}

-- the warning about item n, if it breaks the rule
abbrev pub graphic_warning : List Name8 → List Texture → Tables → Rule → ℕ → Option Warning
graphic_warning flats textures m rule n =
    option_map (warning_of_shown m rule n) (wrong_on flats textures m rule n)

-- a warning for each item that breaks the rule
abbrev pub graphic_breaches : List Name8 → List Texture → Tables → Rule → List Warning
graphic_breaches flats textures m rule =
    filter_map (graphic_warning flats textures m rule) (range_with_len 0 (reach m rule))

-- the rules in their order
abbrev pub graphic_rules : List Rule
graphic_rules = FlatKnown ∷ TextureKnown ∷ TextureReaches ∷ PatchesApart ∷ []

-- the warnings for a WAD that has these flats and these textures
abbrev pub graphic_warnings : List Name8 → List Texture → Tables → List Warning
graphic_warnings flats textures m =
    flat_map (graphic_breaches flats textures m) graphic_rules

-- the set holds exactly the bytes of the names
abbrev pub IsNameSet : NameSet → Type 0
IsNameSet s =
    (bytes : List ℕ)
    → list_any (bytes_eq bytes) s.bytes.keys ≡ list_any (λ k. bytes_eq k.bytes bytes) s.names.now
