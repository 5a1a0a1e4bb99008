-- The lines of each sector while they are filed: the lists to which a line's number is appended.
use Rattle.std.specs.Prelude.{◌≡◌, ◌≢◌, ℕ, ◌<◌, if◌then◌else◌, List, [], ◌∷◌, ◌++◌, flat_map, length, get_or}
use Rattle.std.specs.List.{range_with_len}
use Rattle.lump_records.specs.declared.records.Line.{Line}
use Rattle.map_tables.specs.Tables.{Tables}
use Rattle.map_picture.specs.Fills.{nth_border}
use Rattle.map_picture.specs.Numbers.{bounds}

-- a sector's lines, with this one if it has the sector on a side
abbrev pub filed : Tables → ℕ → Line → ℕ → List ℕ → List ℕ
filed m n l s ns = if bounds m s l then ns ++ n ∷ [] else ns

-- the line was appended to the lists of the sectors that it has on a side, the other lists are as before
pub record FilesBorder (m : Tables) (n : ℕ) (l : Line) (old new : List (List ℕ)) : Type 0 where
  pub count : length new ≡ length old
  pub lines : (i : ℕ) → i < length old → get_or new i [] ≡ filed m n l i (get_or old i [])

-- the line was appended to the list of the sector, the other lists are as before
pub record FilesFor (sector n : ℕ) (old new : List (List ℕ)) : Type 0 where
  pub count : length new ≡ length old
  pub this : (i : ℕ) → i < length old → i ≡ sector → get_or new i [] ≡ get_or old i [] ++ n ∷ []
  pub others : (i : ℕ) → i < length old → i ≢ sector → get_or new i [] ≡ get_or old i []

-- each sector has a list of lines that have all its edges along the first n lines of the map
pub record AreBorders (m : Tables) (n : ℕ) (lists : List (List ℕ)) : Type 0 where
  pub count : length lists ≡ length m.sectors
  pub edges : (s : ℕ) → s < length lists
      → flat_map (nth_border m s) (get_or lists s [])
      ≡ flat_map (nth_border m s) (range_with_len 0 n)
