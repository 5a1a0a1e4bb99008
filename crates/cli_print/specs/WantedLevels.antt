-- The levels of a WAD that the program's words ask for (docs/COMMANDS.md, "The program").
use Rattle.std.specs.Prelude.{◌≡◌, ℕ, List, [], ◌∷◌, slice_get, Option, Some, None}
use Rattle.wad_levels.specs.Called.{last_called}
use Rattle.wad_levels.specs.Entries.{AreLevels}
use Rattle.wad_levels.specs.Listing.{RefusesListing}
use Rattle.wad_levels.specs.declared.entries.LevelEntries.{LevelEntries}
use Rattle.wad_levels.specs.declared.error.ReadError.{ReadError}
use Rattle.wad_levels.specs.declared.error.ReadError.TheVariants.{NoSuchLevel}

-- of these levels the last one of the name, or the first of all where no name is asked for
abbrev pub wanted_of : List ℕ → Option (List ℕ) → List LevelEntries → Option LevelEntries
wanted_of wad None levels = slice_get levels 0
wanted_of wad (Some name) levels = last_called wad levels name

-- this is that level of the WAD
abbrev pub IsWanted : List ℕ → Option (List ℕ) → LevelEntries → Type 0
IsWanted wad name l =
    (levels : List LevelEntries) × AreLevels wad levels × (wanted_of wad name levels ≡ Some l)

-- why there is none: the WAD's levels can't be found, or none is the one
abbrev pub RefusesWanted : List ℕ → Option (List ℕ) → ReadError → Type 0
RefusesWanted wad name NoSuchLevel =
    (levels : List LevelEntries) × AreLevels wad levels × (wanted_of wad name levels ≡ None)
RefusesWanted wad name e = RefusesListing wad e

-- the levels that are looked at: all of the WAD, or the last one of the name
abbrev pub AreWanted : List ℕ → Option (List ℕ) → List LevelEntries → Type 0
AreWanted wad None levels = AreLevels wad levels
AreWanted wad (Some name) levels =
    (l : LevelEntries) × IsWanted wad (Some name) l × (levels ≡ l ∷ [])

-- why there are none
abbrev pub RefusesAllWanted : List ℕ → Option (List ℕ) → ReadError → Type 0
RefusesAllWanted wad None e = RefusesListing wad e
RefusesAllWanted wad (Some name) e = RefusesWanted wad (Some name) e
