-- The maps of a project and the levels of a WAD that names ask for, any number of names
-- (docs/COMMANDS.md, "The program").
use Rattle.std.specs.Prelude.{◌≡◌, ℕ, Bool, true, false, is_some, filter, find, List}
use Rattle.std.specs.List.{list_all}
use Rattle.lump_records.specs.Names.{name_text}
use Rattle.wad_levels.specs.Called.{is_level_asked, last_called}
use Rattle.wad_levels.specs.Entries.{AreLevels}
use Rattle.wad_levels.specs.Listing.{RefusesListing}
use Rattle.wad_levels.specs.declared.entries.LevelEntries.{LevelEntries}
use Rattle.wad_levels.specs.declared.error.ReadError.{ReadError}
use Rattle.wad_levels.specs.declared.error.ReadError.TheVariants.{NoSuchLevel}
use Rattle.map_tables.specs.Projects.{ProjectMaps}
use Rattle.map_tables.specs.Tables.{Tables}
use Rattle.wad_file.specs.Names.{is_asked}
use Rattle.cli_print.specs.Called.{is_called}

-- ---- maps

-- there is a map of the name, and of each of the names
abbrev pub has_map_called : ProjectMaps → List ℕ → Bool
has_map_called p name = is_some (find (is_called name) p.maps)

abbrev pub have_maps : ProjectMaps → List (List ℕ) → Bool
have_maps p names = list_all (has_map_called p) names

-- the maps that are asked for, by number
abbrev pub asked_maps : List (List ℕ) → ProjectMaps → List Tables
asked_maps names p = filter (λ m. is_asked names (name_text m.name)) p.maps

-- ---- levels

-- one of these levels has the name, and for each of the names there is one
abbrev pub has_level_called : List ℕ → List LevelEntries → List ℕ → Bool
has_level_called wad levels name = is_some (last_called wad levels name)

abbrev pub have_levels : List ℕ → List LevelEntries → List (List ℕ) → Bool
have_levels wad levels names = list_all (has_level_called wad levels) names

-- those of these levels that are asked for: all, or the last one of each name
abbrev pub asked_among : List ℕ → List (List ℕ) → List LevelEntries → List LevelEntries
asked_among wad names levels = filter (is_level_asked wad levels names) levels

-- these are the levels of the WAD that are asked for, in the order of its directory, and for each of
-- the names there is one
abbrev pub AreAsked : List ℕ → List (List ℕ) → List LevelEntries → Type 0
AreAsked wad names asked =
    (levels : List LevelEntries) × AreLevels wad levels × (have_levels wad levels names ≡ true)
    × (asked ≡ asked_among wad names levels)

-- why there are none: the WAD's levels can't be found, or one of the names is no level's
abbrev pub RefusesAsked : List ℕ → List (List ℕ) → ReadError → Type 0
RefusesAsked wad names NoSuchLevel =
    (levels : List LevelEntries) × AreLevels wad levels × (have_levels wad levels names ≡ false)
RefusesAsked wad names e = RefusesListing wad e
