-- What a build writes and prints (docs/COMMANDS.md, "The program"): a PWAD, and the counts of its
-- records.
use Rattle.std.specs.Prelude.{ℕ, List, [], ◌∷◌, All, Option, codes, decimal}
use Rattle.std.specs.Io.KnownBytes.{Appends, Keeps}
use Rattle.lump_text.specs.Texts.{joined}
use Rattle.map_tables.specs.Tables.{Tables}
use Rattle.wad_build.specs.Counted.{IsBuildCounted}
use Rattle.wad_build.specs.Projects.{Blames}
use Rattle.wad_build.specs.Sound.{CanBeBuilt}
use Rattle.wad_build.specs.declared.counted.BuildCounts.{BuildCounts}
use Rattle.run_edit.specs.declared.error.WriteError.{WriteError}
use Rattle.run_edit.specs.declared.error.WriteError.TheVariants.{Build, WriterFailed}

-- a sound build of each map was written, and these are its counts
abbrev pub IsWritten : List Tables → BuildCounts → Option (List ℕ) → Option (List ℕ) → Type 0
IsWritten ms c writer-old writer-new =
    (wad : List ℕ) × IsBuildCounted ms wad c × Appends writer-old writer-new wad

-- no PWAD was written: if a map can't be built nothing at all, and else the writer failed
abbrev pub RefusesWriting : List Tables → WriteError → Option (List ℕ) → Option (List ℕ) → Type 0
RefusesWriting ms (Build unbuilt) writer-old writer-new =
    Blames ms unbuilt.error unbuilt.map × Keeps writer-old writer-new
RefusesWriting ms WriterFailed writer-old writer-new = All CanBeBuilt ms

-- `built`, the counts, and the length of the PWAD
abbrev pub built_text : BuildCounts → List ℕ
built_text c =
    joined
    (codes "built vertices " ∷ decimal c.vertices ∷ codes " segs " ∷ decimal c.segs
    ∷ codes " subsectors " ∷ decimal c.subs ∷ codes " nodes " ∷ decimal c.nodes
    ∷ codes " bytes " ∷ decimal c.bytes ∷ codes "\n" ∷ [])
