-- The numbers and the texts of the refusals.
use Rattle.std.specs.Prelude.{ℕ, List, codes}
use Rattle.map_script.specs.declared.error.DrawError.{DrawError}
use Rattle.map_script.specs.declared.error.DrawError.TheVariants.{NotALet, NotALoop, NotAnAt, NotADefine, NotItsWords, OutsideMap, NotAQuarter, NotAName, NotAReference, OtherKind, UnknownName, NothingAdded, NumberTooLarge, NothingThere, NotANumber, NotWhole, TooGreat, TooDeep, OpenBlock, TooManyLines, OutOfMemory}

-- the number of each refusal
abbrev pub code_of : DrawError → ℕ
code_of NotALet = 1
code_of NotALoop = 1
code_of NotAnAt = 1
code_of NotADefine = 1
code_of NotItsWords = 1
code_of OutsideMap = 2
code_of NotAQuarter = 2
code_of NotAName = 20
code_of NotAReference = 21
code_of OtherKind = 21
code_of UnknownName = 22
code_of NothingAdded = 23
code_of NumberTooLarge = 24
code_of NothingThere = 45
code_of NotANumber = 46
code_of NotWhole = 46
code_of TooGreat = 46
code_of TooDeep = 46
code_of OpenBlock = 47
code_of TooManyLines = 48
code_of OutOfMemory = 31

-- the text of a refusal
abbrev pub message_of : DrawError → List ℕ
message_of NotALet = codes "a name and one or more words stand behind let"
message_of NotALoop = codes "a name and two numbers stand behind for"
message_of NotAnAt = codes "two or three numbers stand behind at"
message_of NotADefine = codes "a name stands behind define"
message_of NotItsWords = codes "a shape has as many words as its define names"
message_of OutsideMap = codes "at moves 0 0 to a place from -16384 to 16383"
message_of NotAQuarter = codes "ANGLE is 0, 90, 180 or 270"
message_of NotAName = codes "a name is a letter, then letters, digits and _"
message_of NotAReference = codes "a reference is $NAME or $NAME.KIND, with or without +N"
message_of OtherKind = codes "the number of an item of another kind stands here"
message_of UnknownName = codes "no line before has this name"
message_of NothingAdded = codes "the command of this name added no such item"
message_of NumberTooLarge = codes "the sum is greater than 32767"
message_of NothingThere = codes "nothing is at this place"
message_of NotANumber = codes "a part of the sum isn't a number"
message_of NotWhole = codes "a quotient of the sum isn't a whole number"
message_of TooGreat = codes "a number of the sum has more than 64 bits"
message_of TooDeep = codes "the parts of the sum nest more than 64 deep"
message_of OpenBlock = codes "a block without its end, an end without a block, a define in a block, or blocks more than 64 deep"
message_of TooManyLines = codes "loops and shapes draw more than 1000000 lines"
message_of OutOfMemory = codes "out of memory"
