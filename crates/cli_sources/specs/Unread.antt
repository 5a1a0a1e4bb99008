-- What was done with all that a reader gives, or that it isn't read to its end.
use Rattle.std.specs.Prelude.{◌≡◌, ◌⊎◌, ℕ, List, Option, Result, Err}
use Rattle.std.specs.Io.KnownBytes.{Keeps}
use Rattle.run_edit.specs.declared.error.EditorError.{EditorError}
use Rattle.cli_refusals.specs.Refusals.{EndsReading}
use Rattle.cli_refusals.specs.declared.refusal.Refusal.{Refusal}
use Rattle.cli_refusals.specs.declared.refusal.Refusal.TheVariants as of
use Rattle.cli_print.specs.Reading.{IsTooLongAfter, turns, ReadsAll}

-- a script or a WAD isn't read to its end
abbrev pub IsUnread : Refusal → Type 0
IsUnread refusal = (e : EditorError) × (refusal ≡ of.Lines e) × EndsReading e

-- the same where a reader should give it; one that ends within so many reads isn't too long
abbrev pub IsUnreadOf : Option (List ℕ) → Option (List ℕ) → Refusal → Type 0
IsUnreadOf reader-old reader-new refusal =
    (e : EditorError) × (refusal ≡ of.Lines e) × EndsReading e
    × IsTooLongAfter turns reader-old reader-new e

-- a request was refused for such a cause, and nothing was written
abbrev pub IsRefusedFor : (Refusal → Type 0) → Result ℕ Refusal → Option (List ℕ)
    → Option (List ℕ) → Type 0
IsRefusedFor cause how writer-old writer-new =
    (refusal : Refusal) × (how ≡ Err refusal) × cause refusal × Keeps writer-old writer-new

-- it isn't read to its end, and nothing was written
abbrev pub EndsUnread : Result ℕ Refusal → Option (List ℕ) → Option (List ℕ) → Type 0
EndsUnread how writer-old writer-new = IsRefusedFor IsUnread how writer-old writer-new

-- ---- A WAD

-- the WAD was not read to its end, and nothing was written; or this was done with all that the
-- reader gave
abbrev pub OverWad : Option (List ℕ) → Option (List ℕ) → Result ℕ Refusal → Option (List ℕ)
    → Option (List ℕ) → (List ℕ → Type 0) → Type 0
OverWad reader-old reader-new how writer-old writer-new does =
    IsRefusedFor (IsUnreadOf reader-old reader-new) how writer-old writer-new
    ⊎ ((wad : List ℕ) × ReadsAll reader-old reader-new wad × does wad)

-- the WAD was not read to its end, and nothing was written or told; or this was done with all that
-- the reader gave
abbrev pub OverWadTold : Option (List ℕ) → Option (List ℕ) → Result ℕ Refusal → Option (List ℕ)
    → Option (List ℕ) → Option (List ℕ) → Option (List ℕ) → (List ℕ → Type 0) → Type 0
OverWadTold reader-old reader-new how writer-old writer-new errors-old errors-new does =
    (IsRefusedFor (IsUnreadOf reader-old reader-new) how writer-old writer-new
    × Keeps errors-old errors-new)
    ⊎ ((wad : List ℕ) × ReadsAll reader-old reader-new wad × does wad)
