-- What is said of a map that can't be built (docs/COMMANDS.md, "The program").
use Rattle.std.specs.Prelude.{ℕ, List, [], Option, None, Some, codes}
use Rattle.cli_files.specs.Causes.{cause_line}
use Rattle.lump_records.specs.Names.{name_text}
use Rattle.lump_records.specs.declared.records.Name8.{Name8}
use Rattle.wad_build.specs.declared.error.BuildError.{BuildError}
use Rattle.wad_build.specs.declared.error.BuildError.TheVariants as build
use Rattle.wad_build.specs.declared.error.Unbuilt.{Unbuilt}

-- why it can't, in words
abbrev pub hindrance_words : BuildError → List ℕ
hindrance_words build.NothingToBuild = codes "has no line"
hindrance_words build.TooManyVertices = codes "needs more than 32767 vertices"
hindrance_words build.TooManySegs = codes "needs more than 32767 segs"
hindrance_words build.TooManySubsectors = codes "needs more than 32767 subsectors"
hindrance_words build.TooDeep = codes "needs a tree with a path of more than 1024 nodes"
hindrance_words build.BlockmapTooLarge = codes "needs a blockmap with a list beyond word 32767"
hindrance_words build.OutOfMemory = codes "finds no memory"

-- the line of the map of this name, if there is one
abbrev pub line_of_map : Option Name8 → List ℕ → List ℕ
line_of_map None words = []
line_of_map (Some name) words = cause_line (name_text name) words

-- the line that names the map that can't be built, and says why
abbrev pub unbuilt_text : Unbuilt → List ℕ
unbuilt_text unbuilt = line_of_map unbuilt.map (hindrance_words unbuilt.error)
