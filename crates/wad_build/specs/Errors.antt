-- The numbers and the texts of the refusals, as docs/FORMAT.md lists them ("Numbers of the refusals").
use Rattle.std.specs.Prelude.{ℕ, None, Some, List, codes}
use Rattle.lump_records.specs.declared.records.Name8.{Name8}
use Rattle.wad_build.specs.declared.error.BuildError.{BuildError}
use Rattle.wad_build.specs.declared.error.BuildError.TheVariants as build
use Rattle.wad_build.specs.declared.error.Unbuilt.{Unbuilt}

-- the number of each refusal to build
abbrev pub build_code_of : BuildError → ℕ
build_code_of build.NothingToBuild = 60
build_code_of build.TooManyVertices = 61
build_code_of build.TooManySegs = 62
build_code_of build.TooManySubsectors = 63
build_code_of build.TooDeep = 64
build_code_of build.BlockmapTooLarge = 66
build_code_of build.OutOfMemory = 31

-- the text of a refusal to build
abbrev pub build_message_of : BuildError → List ℕ
build_message_of build.NothingToBuild = codes "there is no line to build from"
build_message_of build.TooManyVertices = codes "the tree needs more than 32767 vertices"
build_message_of build.TooManySegs = codes "the tree has more than 32767 segs"
build_message_of build.TooManySubsectors = codes "the tree has more than 32767 subsectors"
build_message_of build.TooDeep = codes "a path of the tree has more than 1024 nodes"
build_message_of build.BlockmapTooLarge = codes "a list of the blockmap would begin beyond word 32767"
build_message_of build.OutOfMemory = codes "out of memory"

-- the refusal with the name of its map, or with no name if memory ran out
abbrev pub blamed : BuildError → Name8 → Unbuilt
blamed build.OutOfMemory name = record { error = build.OutOfMemory; map = None }
blamed e name = record { error = e; map = Some name }
