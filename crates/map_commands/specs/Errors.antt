-- The numbers and the texts of the refusals.
use Rattle.std.specs.Prelude.{◌≡◌, ℕ, List, codes, Option, Some, None, Result, MatchResult}
use Rattle.map_tables.specs.Errors as of_map
use Rattle.map_tables.specs.declared.error.MapError.TheVariants as map_error
use Rattle.map_commands.specs.declared.error.CommandError.{CommandError}
use Rattle.map_commands.specs.declared.error.CommandError.TheVariants.{NotACommand, OutOfRange, NoVertex, NoSector, NoSide, NoLine, NoThing, InUse, SameEnds, PlaceTaken, TwoSidedWithoutLeft, TableFull, LineTooLong, ProjectFull, BadName, TooManyMaps, MapNameTaken, NoSuchMap, CurrentMap, OutOfMemory}

-- the number of a refusal: a map's has the number that it has there
abbrev pub code_of : CommandError → ℕ
code_of NotACommand = 1
code_of OutOfRange = 2
code_of NoVertex = of_map.code_of map_error.NoVertex
code_of NoSector = of_map.code_of map_error.NoSector
code_of NoSide = of_map.code_of map_error.NoSide
code_of NoLine = of_map.code_of map_error.NoLine
code_of NoThing = of_map.code_of map_error.NoThing
code_of InUse = of_map.code_of map_error.InUse
code_of SameEnds = of_map.code_of map_error.SameEnds
code_of PlaceTaken = of_map.code_of map_error.PlaceTaken
code_of TwoSidedWithoutLeft = of_map.code_of map_error.TwoSidedWithoutLeft
code_of TableFull = of_map.code_of map_error.TableFull
code_of LineTooLong = of_map.code_of map_error.LineTooLong
code_of ProjectFull = 14
code_of BadName = 15
code_of TooManyMaps = of_map.code_of map_error.TooManyMaps
code_of MapNameTaken = of_map.code_of map_error.MapNameTaken
code_of NoSuchMap = of_map.code_of map_error.NoSuchMap
code_of CurrentMap = of_map.code_of map_error.CurrentMap
code_of OutOfMemory = of_map.code_of map_error.OutOfMemory

-- the text of a refusal: a map's has the text that it has there
abbrev pub message_of : CommandError → List ℕ
message_of NotACommand = codes "not a command"
message_of OutOfRange = codes "a number is out of its range"
message_of NoVertex = of_map.message_of map_error.NoVertex
message_of NoSector = of_map.message_of map_error.NoSector
message_of NoSide = of_map.message_of map_error.NoSide
message_of NoLine = of_map.message_of map_error.NoLine
message_of NoThing = of_map.message_of map_error.NoThing
message_of InUse = of_map.message_of map_error.InUse
message_of SameEnds = of_map.message_of map_error.SameEnds
message_of PlaceTaken = of_map.message_of map_error.PlaceTaken
message_of TwoSidedWithoutLeft = of_map.message_of map_error.TwoSidedWithoutLeft
message_of TableFull = of_map.message_of map_error.TableFull
message_of LineTooLong = of_map.message_of map_error.LineTooLong
message_of ProjectFull = codes "the project is full"
message_of BadName = codes "a bad name"
message_of TooManyMaps = of_map.message_of map_error.TooManyMaps
message_of MapNameTaken = of_map.message_of map_error.MapNameTaken
message_of NoSuchMap = of_map.message_of map_error.NoSuchMap
message_of CurrentMap = of_map.message_of map_error.CurrentMap
message_of OutOfMemory = of_map.message_of map_error.OutOfMemory

-- the number of a refusal, if there is one
abbrev pub code_in : Option CommandError → Option ℕ
code_in None = None
code_in (Some e) = Some (code_of e)

-- the call ended Ok where there is no fault, and else with the fault's number
abbrev pub TellsFault : {X : Type 0} → Result X CommandError → Option ℕ → Type 0
TellsFault result fault = MatchResult result (λ _. fault ≡ None) (λ e. fault ≡ Some (code_of e))
