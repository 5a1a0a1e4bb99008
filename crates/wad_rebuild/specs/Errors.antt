-- The number and the text of a refusal to build a WAD anew (docs/COMMANDS.md).
use Rattle.std.specs.Prelude.{ℕ, List, codes}
use Rattle.wad_rebuild.specs.declared.error.RebuildError.{RebuildError}
use Rattle.wad_rebuild.specs.declared.error.RebuildError.TheVariants.{TooLong, NotAWad, DirectoryOutside, NoSuchLevel, LumpOutside, OutOfMemory}

-- the number of each refusal
abbrev pub code_of : RebuildError → ℕ
code_of TooLong = 36
code_of NotAWad = 70
code_of DirectoryOutside = 71
code_of NoSuchLevel = 72
code_of LumpOutside = 74
code_of OutOfMemory = 31

-- the text of a refusal
abbrev pub message_of : RebuildError → List ℕ
message_of TooLong = codes "the lumps are too long together"
message_of NotAWad = codes "the file is no WAD"
message_of DirectoryOutside = codes "the directory ends beyond the file"
message_of NoSuchLevel = codes "the WAD has no level of this name"
message_of LumpOutside = codes "a lump ends beyond the file"
message_of OutOfMemory = codes "out of memory"
