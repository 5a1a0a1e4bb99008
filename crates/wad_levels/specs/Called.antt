-- The levels that names ask for (docs/FORMAT.md, "Levels of other WADs"): of a name that several
-- levels have, the last one counts.
use Rattle.std.specs.Prelude.{ℕ, Bool, ◌||◌, ◌==◌, List, find, flat_map, length, reverse, option_to_list, Option}
use Rattle.std.specs.List.{list_any}
use Rattle.lump_records.specs.Names.{name_text}
use Rattle.wad_file.specs.Fields.{same_bytes}
use Rattle.wad_levels.specs.Entries.{level_name}
use Rattle.wad_levels.specs.declared.entries.LevelEntries.{LevelEntries}

-- the level is called so
abbrev pub is_level_called : List ℕ → List ℕ → LevelEntries → Bool
is_level_called wad name l = same_bytes (name_text (level_name wad l)) name

-- of these levels the last one of the name
abbrev pub last_called : List ℕ → List LevelEntries → List ℕ → Option LevelEntries
last_called wad levels name = find (is_level_called wad name) (reverse levels)

-- of these levels the last one of each name, for the names that a level has
abbrev pub last_of_each : List ℕ → List LevelEntries → List (List ℕ) → List LevelEntries
last_of_each wad levels names =
    flat_map (λ name. option_to_list (last_called wad levels name)) names

-- the level is one of these
abbrev pub is_level_among : List LevelEntries → LevelEntries → Bool
is_level_among levels l = list_any (λ m. m.marker == l.marker) levels

-- the level is asked for: there are no names, or it is one of these, their last ones
abbrev pub is_asked_of : List (List ℕ) → List LevelEntries → LevelEntries → Bool
is_asked_of names last l = (length names == 0) || is_level_among last l

-- of these levels the names ask for this one
abbrev pub is_level_asked : List ℕ → List LevelEntries → List (List ℕ) → LevelEntries → Bool
is_level_asked wad levels names l = is_asked_of names (last_of_each wad levels names) l
