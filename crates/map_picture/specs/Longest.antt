-- The longest line of each of several sectors, in a list by sector from a first one on.
use Rattle.std.specs.Prelude.{◌≡◌, ◌≢◌, ℕ, ◌+◌, ◌<◌, List, length, get_or, fold, Option, None}
use Rattle.lump_records.specs.declared.records.Line.{Line}
use Rattle.map_tables.specs.Tables.{Tables}
use Rattle.map_picture.specs.Numbers.{longer}

-- the list has the longest of these lines for each sector from `first` on
abbrev pub AreLongest : Tables → ℕ → List Line → List (Option Line) → Type 0
AreLongest m first ls longest =
    (i : ℕ) → i < length longest → get_or longest i None ≡ fold (longer m (first + i)) None ls

-- each sector's line is as before, or this line if it is a longer one of the sector
pub record LooksAt (m : Tables) (first : ℕ) (l : Line) (old new : List (Option Line)) : Type 0 where
  pub count : length new ≡ length old
  pub lines : (i : ℕ) → i < length old
      → get_or new i None ≡ longer m (first + i) (get_or old i None) l

-- the same for one sector; the other sectors' lines are as before
pub record LooksFor (m : Tables) (first sector : ℕ) (l : Line) (old new : List (Option Line)) :
    Type 0 where
  pub count : length new ≡ length old
  pub this : (i : ℕ) → i < length old → first + i ≡ sector
      → get_or new i None ≡ longer m sector (get_or old i None) l
  pub others : (i : ℕ) → i < length old → first + i ≢ sector
      → get_or new i None ≡ get_or old i None
