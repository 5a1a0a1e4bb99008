-- The numbers and the texts of the refusals.
use Rattle.std.specs.Prelude.{ℕ, List, codes}
use Rattle.map_tables.specs.declared.error.MapError.{MapError}
use Rattle.map_tables.specs.declared.error.MapError.TheVariants.{NoVertex, NoSector, NoSide, NoLine, NoThing, InUse, SameEnds, PlaceTaken, TwoSidedWithoutLeft, TableFull, LineTooLong, TooManyMaps, MapNameTaken, NoSuchMap, CurrentMap, OutOfMemory, Damaged}

-- the number of each refusal
abbrev pub code_of : MapError → ℕ
code_of NoVertex = 3
code_of NoSector = 4
code_of NoSide = 5
code_of NoLine = 6
code_of NoThing = 7
code_of InUse = 8
code_of SameEnds = 9
code_of PlaceTaken = 10
code_of TwoSidedWithoutLeft = 11
code_of TableFull = 12
code_of LineTooLong = 13
code_of TooManyMaps = 16
code_of MapNameTaken = 17
code_of NoSuchMap = 18
code_of CurrentMap = 19
code_of OutOfMemory = 31
code_of (Damaged place) = 40

-- the text of a refusal
abbrev pub message_of : MapError → List ℕ
message_of NoVertex = codes "no vertex has the number"
message_of NoSector = codes "no sector has the number"
message_of NoSide = codes "no side has the number"
message_of NoLine = codes "no line has the number"
message_of NoThing = codes "no thing has the number"
message_of InUse = codes "another item names the item"
message_of SameEnds = codes "the line's ends are one vertex"
message_of PlaceTaken = codes "another vertex has the place"
message_of TwoSidedWithoutLeft = codes "the line is two-sided and has no left side"
message_of TableFull = codes "the table is full"
message_of LineTooLong = codes "the line is too long"
message_of TooManyMaps = codes "there are 32 maps"
message_of MapNameTaken = codes "another map has the name"
message_of NoSuchMap = codes "no map has the name"
message_of CurrentMap = codes "the map is the current one"
message_of OutOfMemory = codes "out of memory"
message_of (Damaged place) = codes "the bytes are no well-formed map"
