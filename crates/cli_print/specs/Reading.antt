-- What was read of a reader that tells its bytes.
use Rattle.std.specs.Prelude.{◌≡◌, ◌≤◌, ℕ, Option, None, Some, List, length, take}
use Rattle.std.specs.Io.KnownBytes.{Consumes, IsAtEnd}
use Rattle.cli_files.specs.Contents.{content_of}
use Rattle.cli_files.specs.declared.cause.Cause.{Cause}
use Rattle.cli_files.specs.declared.cause.Cause.TheVariants.{Holds, NoScript}
use Rattle.cli_files.specs.declared.content.Content.{Content}
use Rattle.cli_files.specs.declared.content.Content.TheVariants.{Project, Wad, Other}
use Rattle.run_edit.specs.declared.error.EditorError.{EditorError}
use Rattle.run_edit.specs.declared.error.EditorError.TheVariants.{InputTooLong}

-- how many reads a run of the program makes at most
abbrev pub turns : ℕ
turns = 1048576

-- these are all bytes that the reader gave
abbrev pub ReadsAll : Option (List ℕ) → Option (List ℕ) → List ℕ → Type 0
ReadsAll reader-old reader-new bytes = Consumes reader-old reader-new bytes × IsAtEnd reader-new

-- too long an input ends a reading of so many reads only after at least as many bytes
abbrev pub IsTooLongAfter : ℕ → Option (List ℕ) → Option (List ℕ) → EditorError → Type 0
IsTooLongAfter reads reader-old reader-new e =
    e ≡ InputTooLong
    → (bytes : List ℕ) × Consumes reader-old reader-new bytes × (reads ≤ length bytes)

-- what is noted of content where a WAD is asked for: nothing of a WAD
abbrev pub noted_of : Content → Option Cause
noted_of Wad = None
noted_of held = Some (Holds held)

-- what is noted of content where a script is asked for: nothing of a text
abbrev pub no_script_of : Content → Option Cause
no_script_of Project = Some (NoScript Project)
no_script_of Wad = Some (NoScript Wad)
no_script_of Other = Some (NoScript Other)
no_script_of held = None

-- what is noted of bytes that were read in place of a script
abbrev pub no_script : List ℕ → Option Cause
no_script bytes = no_script_of (content_of (take 512 bytes))

-- what is noted of bytes that were read in place of a WAD
abbrev pub no_wad : List ℕ → Option Cause
no_wad bytes = noted_of (content_of (take 512 bytes))
