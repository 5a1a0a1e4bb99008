-- The text of a hindrance: one line without its end (docs/FORMAT.md, "Levels of other WADs").
use Rattle.std.specs.Prelude.{ℕ, if◌then◌else◌, ◌==◌, List, ◌++◌, codes, decimal}
use Rattle.wad_levels.specs.declared.hindrance.Hindrance.{Hindrance}
use Rattle.wad_levels.specs.declared.hindrance.Hindrance.TheVariants.{UdmfLevel, HexenLevel, LumpMissing, LumpOutside, LumpLength, SideSector, NoLine, OutOfMemory, LineLacks}
use Rattle.wad_levels.specs.declared.hindrance.LineNeed.{LineNeed}
use Rattle.wad_levels.specs.declared.hindrance.LineNeed.TheVariants.{Vertices, RightSide, LeftSide, SomeLength, Coordinates, AtMostLongest}

-- the name of a drawn lump, by its number among the names of a level's lumps
abbrev pub lump_text : ℕ → List ℕ
lump_text n =
    if n == 0 then codes "THINGS"
    else (if n == 1 then codes "LINEDEFS"
    else (if n == 2 then codes "SIDEDEFS"
    else (if n == 3 then codes "VERTEXES" else codes "SECTORS")))

-- what is said of a line without it
abbrev pub lack_text : LineNeed → List ℕ
lack_text Vertices = codes "has a vertex that isn't there"
lack_text RightSide = codes "has no right side"
lack_text LeftSide = codes "has a left side that isn't there"
lack_text SomeLength = codes "has no length"
lack_text Coordinates = codes "has an end outside the coordinates"
lack_text AtMostLongest = codes "is longer than 32767"

-- the text of a hindrance, its number in decimal
abbrev pub hindrance_text : Hindrance → List ℕ
hindrance_text UdmfLevel = codes "the level is one of UDMF"
hindrance_text HexenLevel = codes "the level is one of Hexen"
hindrance_text (LumpMissing n) = lump_text n ++ codes " is missing"
hindrance_text (LumpOutside n) = lump_text n ++ codes " ends beyond the file"
hindrance_text (LumpLength n) = lump_text n ++ codes " is no whole number of records"
hindrance_text (LineLacks need n) = codes "line " ++ decimal n ++ codes " " ++ lack_text need
hindrance_text (SideSector n) =
    codes "side " ++ decimal n ++ codes " has a sector that isn't there"
hindrance_text NoLine = codes "the level has no line"
hindrance_text OutOfMemory = codes "the program is out of memory"
