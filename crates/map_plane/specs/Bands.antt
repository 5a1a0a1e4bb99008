-- Lines in bands of 128 rows, so that a line or a thing is compared only with the lines near it.
use Rattle.std.specs.Prelude.{◌≡◌, ℕ, ◌*◌, ◌<◌, Bool, List, [], ◌∷◌, ◌++◌, length, filter, get_or, ℤ, pos, ◌+ℤ◌, ◌-ℤ◌, ◌≤ℤ◌}
use Rattle.map_plane.specs.declared.places.PlacedLine.{PlacedLine}
use Rattle.map_plane.specs.declared.bands.FiledLines.{FiledLines}
use Rattle.map_tables.specs.Tables.{Tables}
use Rattle.map_plane.specs.Meeting.{spans_meet}
use Rattle.map_plane.specs.Places.{placed_lines}

-- the lowest row of band b
abbrev pub band_bottom : ℕ → ℤ
band_bottom b = pos (128 * b) -ℤ pos 32768

-- the highest row of band b
abbrev pub band_top : ℕ → ℤ
band_top b = band_bottom b +ℤ pos 127

-- the line's box and band b have a row in common
unfoldable pub is_in_band : ℕ → PlacedLine → Bool
is_in_band b l = spans_meet l.from.y l.to.y (band_bottom b) (band_top b)

-- the row lies in band b
pub record IsBandOf (y : ℤ) (b : ℕ) : Type 0 where
  pub among : b < 512
  pub low : band_bottom b ≤ℤ y
  pub high : y ≤ℤ band_top b

-- each band holds exactly the lines whose boxes have a row in common with it, in order
pub record AreBands (ls : List PlacedLine) (bands : List (List PlacedLine)) : Type 0 where
  pub count : length bands ≡ 512
  pub filed : (b : ℕ) → b < 512 → get_or bands b [] ≡ filter (is_in_band b) ls

-- the line was added at the end of each band that has a row in common with its box
pub record FilesLine (l : PlacedLine) (old new : List (List PlacedLine)) : Type 0 where
  pub count : length new ≡ length old
  pub each : (b : ℕ) → b < 512
      → get_or new b [] ≡ get_or old b [] ++ filter (is_in_band b) (l ∷ [])

-- the bands hold the lines
abbrev pub AreFiled : FiledLines → Type 0
AreFiled f = AreBands f.lines.items f.bands.items

-- the lines are these, and the bands hold them
pub record IsFiling (ls : List PlacedLine) (f : FiledLines) : Type 0 where
  pub lines : f.lines.items ≡ ls
  pub filed : AreFiled f

-- the lines are the map's, and the bands hold them
abbrev pub AreFiledLines : Tables → FiledLines → Type 0
AreFiledLines m f = IsFiling (placed_lines m) f
