-- Lines of a level that have no length, and what hinders a build of the level without them
-- (docs/FORMAT.md, "A map of a WAD's level").
use Rattle.std.specs.Prelude.{◌≡◌, ◌⊎◌, ℕ, Bool, if◌then◌else◌, not, ◌&&◌, ◌||◌, ◌==◌, List, length, filter, position, take, Option, Some, None}
use Rattle.std.specs.Option.{option_map, option_or}
use Rattle.lump_records.specs.declared.records.Line.{Line}
use Rattle.wad_levels.specs.Drawn.{DrawnLists, entries_hindrance, has_need, lists_hindrance, side_hindrance}
use Rattle.wad_levels.specs.declared.entries.LevelEntries.{LevelEntries}
use Rattle.wad_levels.specs.declared.hindrance.Hindrance.{Hindrance}
use Rattle.wad_levels.specs.declared.hindrance.Hindrance.TheVariants.{UdmfLevel, HexenLevel, LumpMissing, LumpOutside, LumpLength, SideSector, NoLine, OutOfMemory, LineLacks}
use Rattle.wad_levels.specs.declared.hindrance.LineNeed.{LineNeed}
use Rattle.wad_levels.specs.declared.hindrance.LineNeed.TheVariants.{Vertices, RightSide, LeftSide, SomeLength, Coordinates, AtMostLongest}

-- both vertices of the line are there, and stand at one place
abbrev pub has_no_length : DrawnLists → Line → Bool
has_no_length d x = has_need d Vertices x && not (has_need d SomeLength x)

-- the lists without the lines of no length
abbrev pub with_lengths : DrawnLists → DrawnLists
with_lengths d = record d { lines = filter (λ x. not (has_no_length d x)) d.lines }

-- the first of the other lines that lacks it, under the number that the level gives the line
abbrev pub other_line_hindrance : DrawnLists → LineNeed → Option Hindrance
other_line_hindrance d need =
    option_map (LineLacks need)
    (position (λ x. not (has_no_length d x || has_need d need x)) d.lines)

-- the first hindrance of the lists without the lines of no length, kind by kind
abbrev pub other_hindrance : DrawnLists → Option Hindrance
other_hindrance d =
    option_or (other_line_hindrance d Vertices)
    (option_or (side_hindrance d)
    (option_or (other_line_hindrance d RightSide)
    (option_or (other_line_hindrance d LeftSide)
    (option_or (other_line_hindrance d Coordinates)
    (option_or (other_line_hindrance d AtMostLongest)
    (if length (with_lengths d).lines == 0 then Some NoLine else None))))))

-- the number that the line of this number has among those that have a length
abbrev pub number_among : DrawnLists → ℕ → ℕ
number_among d n = length (filter (λ x. not (has_no_length d x)) (take n d.lines))

-- the hindrance, a line under that number
abbrev pub renumbered : DrawnLists → Hindrance → Hindrance
renumbered d (LineLacks need n) = LineLacks need (number_among d n)
renumbered d UdmfLevel = UdmfLevel
renumbered d HexenLevel = HexenLevel
renumbered d (LumpMissing n) = LumpMissing n
renumbered d (LumpOutside n) = LumpOutside n
renumbered d (LumpLength n) = LumpLength n
renumbered d (SideSector n) = SideSector n
renumbered d NoLine = NoLine
renumbered d OutOfMemory = OutOfMemory

-- what hinders the lists without the lines of no length is this hindrance
abbrev pub OthersHinderTheRest : Type 0
OthersHinderTheRest =
    (d : DrawnLists)
    → lists_hindrance (with_lengths d) ≡ option_map (renumbered d) (other_hindrance d)

-- the first cause why what was drawn of a level can't be read, or lack of memory
abbrev pub HindersReading : List ℕ → LevelEntries → Hindrance → Type 0
HindersReading wad l h = (h ≡ OutOfMemory) ⊎ (entries_hindrance wad l ≡ Some h)
