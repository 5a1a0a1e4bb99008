-- The numbers and the texts of the refusals, as docs/FORMAT.md lists them ("Numbers of the refusals").
use Rattle.std.specs.Prelude.{ℕ, List, codes}
use Rattle.wad_levels.specs.declared.error.ReadError.{ReadError}
use Rattle.wad_levels.specs.declared.error.ReadError.TheVariants.{LumpLength, NotAWad, DirectoryOutside, NoSuchLevel, LumpMissing, LumpOutside, HexenLevel, TextureLump, OutOfMemory}

-- the number that a refusal to read is known by
abbrev pub code_of : ReadError → ℕ
code_of LumpLength = 50
code_of NotAWad = 70
code_of DirectoryOutside = 71
code_of NoSuchLevel = 72
code_of LumpMissing = 73
code_of LumpOutside = 74
code_of HexenLevel = 75
code_of TextureLump = 76
code_of OutOfMemory = 31

-- the text of a refusal
abbrev pub message_of : ReadError → List ℕ
message_of LumpLength = codes "a lump is no whole number of records"
message_of NotAWad = codes "the file is no WAD"
message_of DirectoryOutside = codes "the directory ends beyond the file"
message_of NoSuchLevel = codes "the WAD has no level of this name"
message_of LumpMissing = codes "a lump of the level is missing, or stands in another place"
message_of LumpOutside = codes "a lump of the level ends beyond the file"
message_of HexenLevel = codes "the level is one of Hexen"
message_of TextureLump = codes "a lump of textures names more than it holds"
message_of OutOfMemory = codes "out of memory"
