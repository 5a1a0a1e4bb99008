-- What a build of all maps writes.
use Rattle.std.specs.Prelude.{ℕ, List, All, Option}
use Rattle.std.specs.Io.KnownBytes.{Appends, Keeps}
use Rattle.map_tables.specs.Tables.{Tables}
use Rattle.wad_build.specs.Counted.{IsBuildCounted}
use Rattle.wad_build.specs.Projects.{Blames, HoldsOnly}
use Rattle.wad_build.specs.Sound.{CanBeBuilt}
use Rattle.wad_build.specs.declared.counted.BuildCounts.{BuildCounts}
use Rattle.wad_build.specs.declared.error.Unwritten.{Unwritten}
use Rattle.wad_build.specs.declared.error.Unwritten.TheVariants.{Build, Writer}

-- the PWAD of the maps was written, and these are its counts
abbrev pub IsWadWritten : List Tables → BuildCounts → Option (List ℕ) → Option (List ℕ) → Type 0
IsWadWritten ms c writer-old writer-new =
    (wad : List ℕ) × IsBuildCounted ms wad c × HoldsOnly ms wad × Appends writer-old writer-new wad

-- it wasn't: if the maps can't be built nothing at all was, and else the writer failed
abbrev pub RefusesWad : List Tables → Unwritten → Option (List ℕ) → Option (List ℕ) → Type 0
RefusesWad ms (Build unbuilt) writer-old writer-new =
    Blames ms unbuilt.error unbuilt.map × Keeps writer-old writer-new
RefusesWad ms Writer writer-old writer-new = All CanBeBuilt ms
