-- When no reason refuses an area for its border or for what is inside, and which of several reasons is told.
use Rattle.std.specs.Prelude.{◌≡◌, ℕ, false, List}
use Rattle.map_plane.specs.Places.{placed_lines}
use Rattle.map_plane.specs.declared.places.PlacedLine.{PlacedLine}
use Rattle.map_tables.specs.Tables.{Tables}
use Rattle.map_areas.specs.declared.error.AreaError.{AreaError}
use Rattle.map_areas.specs.declared.error.AreaError.TheVariants.{Crossing, NotEmpty, OutOfMemory, Refused, SeveralSectors}
use Rattle.map_areas.specs.declared.error.Part.{Part}
use Rattle.map_areas.specs.Apart.{doubled}
use Rattle.map_areas.specs.Refusals.{CrossWhole, LiesInVoid, are_several}

-- the refusal is that of an edge that crosses a line at no whole place
abbrev pub IsOfCrossing : AreaError → Type 0
IsOfCrossing (Crossing line near) = Unit {0}
IsOfCrossing OutOfMemory = Unit {0}
IsOfCrossing e = ⊥

-- the refusal is that of what is round a border or inside it
abbrev pub IsOfRound : AreaError → Type 0
IsOfRound (SeveralSectors first second) = Unit {0}
IsOfRound (NotEmpty line) = Unit {0}
IsOfRound OutOfMemory = Unit {0}
IsOfRound e = ⊥

-- the border of an area has one sector inside, or the void: its edges cross lines at whole places, and no two parts of
-- it have different sectors inside
pub record HasOneInside (m : Tables) (es : List PlacedLine) : Type 0 where
  pub whole : CrossWhole (placed_lines m) es
  pub sectors : (first second : Part) → are_several m es first second ≡ false

-- no reason refuses an area for its border or for what is inside: the border has one sector inside, or the void, in
-- which no part of a line lies inside
pub record MayBecome (m : Tables) (es : List PlacedLine) : Type 0 where
  pub border : HasOneInside m es
  pub empty : (n : ℕ) → LiesInVoid m es (doubled es) n → ⊥

-- 28 comes only where no two parts of the border have different sectors inside
abbrev pub ComesAfterSectors : Tables → List PlacedLine → AreaError → Type 0
ComesAfterSectors m es (NotEmpty line) =
    (first second : Part) → are_several m es first second ≡ false
ComesAfterSectors m es e = Unit {0}

-- of several reasons the first is told: 26 before 27, and both before 28 and the refusal of a command
abbrev pub ComesInOrder : Tables → List PlacedLine → AreaError → Type 0
ComesInOrder m es (SeveralSectors first second) = CrossWhole (placed_lines m) es
ComesInOrder m es (NotEmpty line) = HasOneInside m es
ComesInOrder m es (Refused e) = MayBecome m es
ComesInOrder m es e = Unit {0}
