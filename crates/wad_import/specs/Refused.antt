-- What refuses a level of which a map is to be made, whatever is changed of it (docs/FORMAT.md,
-- "A map of a WAD's level").
use Rattle.std.specs.Prelude.{◌≡◌, ◌⊎◌, ℕ, pos, int_le, Bool, if◌then◌else◌, not, ◌&&◌, ◌||◌, nat_lt, nat_le, List, length, position, Option, Some, None}
use Rattle.std.specs.Option.{option_map, option_or}
use Rattle.lump_records.specs.Limits.{item_limit, sector_limit}
use Rattle.lump_records.specs.Names.{is_name, is_marker, name_of, name_text}
use Rattle.lump_records.specs.declared.records.Name8.{Name8}
use Rattle.lump_records.specs.declared.records.Line.{Line}
use Rattle.lump_records.specs.declared.records.Side.{Side}
use Rattle.lump_records.specs.declared.records.Sector.{Sector}
use Rattle.wad_levels.specs.Drawn.{DrawnLists, drawn_lists, entries_hindrance, is_drawable}
use Rattle.wad_levels.specs.Lengths.{has_no_length, other_hindrance}
use Rattle.wad_levels.specs.declared.entries.LevelEntries.{LevelEntries}
use Rattle.map_tables.specs.declared.kind.Kind.{Kind}
use Rattle.map_tables.specs.declared.kind.Kind.TheVariants as kind
use Rattle.wad_import.specs.Mended.{mended_name}
use Rattle.wad_import.specs.Imported.{kept_lines, kept_things, reached_vertices, same_name}
use Rattle.wad_import.specs.declared.error.ImportError.{ImportError}
use Rattle.wad_import.specs.declared.error.ImportError.TheVariants.{Hindered, NoMarker, TooMany, VertexOutside, SectorName, SectorNumber, SideName, LineNumber, OutOfMemory}

-- the changed name is one of a texture or a flat
abbrev pub is_nameable : Name8 → Bool
is_nameable name = is_name (name_text (mended_name name))

abbrev pub has_flat_names : Sector → Bool
has_flat_names s = is_nameable s.floor_name && is_nameable s.ceiling_name

abbrev pub has_texture_names : Side → Bool
has_texture_names s = is_nameable s.upper && is_nameable s.lower && is_nameable s.middle

-- neither special nor tag is below 0
abbrev pub has_sector_codes : Sector → Bool
has_sector_codes s = int_le (pos 0) s.special && int_le (pos 0) s.tag

-- flags, special and tag are at most 32,767
abbrev pub has_line_codes : Line → Bool
has_line_codes x = nat_le x.flags 32767 && nat_le x.special 32767 && nat_le x.tag 32767

-- the line is left out, or has these codes
abbrev pub is_out_or_has_codes : DrawnLists → Line → Bool
is_out_or_has_codes d x = has_no_length d x || has_line_codes x

-- the name is a map's, as a map keeps it
abbrev pub is_map_name : Name8 → Bool
is_map_name name = same_name (name_of (name_text name)) name && is_marker (name_text name)

-- there are too many items of the kind
abbrev pub excess : Kind → ℕ → ℕ → Option ImportError
excess kind limit count = if nat_lt limit count then Some (TooMany kind) else None

-- the first table with too many items
abbrev pub count_refusal : DrawnLists → Option ImportError
count_refusal d =
    option_or (excess kind.Vertex item_limit (length (reached_vertices d)))
    (option_or (excess kind.Sector sector_limit (length d.sectors))
    (option_or (excess kind.Side item_limit (length d.sides))
    (option_or (excess kind.Line item_limit (length (kept_lines d)))
    (excess kind.Thing item_limit (length (kept_things d))))))

-- the number of the first item that doesn't pass the test, in a refusal
abbrev pub first_without :
    {X : Type 0} → (ℕ → ImportError) → (X → Bool) → List X → Option ImportError
first_without error test xs = option_map error (position (λ x. not (test x)) xs)

-- the first item, kind by kind, of which a map may have none
abbrev pub item_refusal : DrawnLists → Option ImportError
item_refusal d =
    option_or (first_without VertexOutside is_drawable (reached_vertices d))
    (option_or (first_without SectorName has_flat_names d.sectors)
    (option_or (first_without SectorNumber has_sector_codes d.sectors)
    (option_or (first_without SideName has_texture_names d.sides)
    (first_without LineNumber (is_out_or_has_codes d) d.lines))))

-- the first refusal of a level whose lists are read
abbrev pub import_refusal : Name8 → DrawnLists → Option ImportError
import_refusal name d =
    option_or (option_map Hindered (other_hindrance d))
    (option_or (if is_map_name name then None else Some NoMarker)
    (option_or (count_refusal d) (item_refusal d)))

-- that refusal, or lack of memory
abbrev pub RefusesImport : Name8 → DrawnLists → ImportError → Type 0
RefusesImport name d e = (e ≡ OutOfMemory) ⊎ (import_refusal name d ≡ Some e)

-- the first refusal of a level of a WAD
abbrev pub level_refusal : List ℕ → LevelEntries → Name8 → Option ImportError
level_refusal wad l name =
    option_or (option_map Hindered (entries_hindrance wad l))
    (import_refusal name (drawn_lists wad l))

-- that refusal, or lack of memory
abbrev pub RefusesLevelImport : List ℕ → LevelEntries → Name8 → ImportError → Type 0
RefusesLevelImport wad l name e = (e ≡ OutOfMemory) ⊎ (level_refusal wad l name ≡ Some e)
