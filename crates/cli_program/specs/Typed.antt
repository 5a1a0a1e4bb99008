-- What was done for a request to which a person types lines (docs/COMMANDS.md, "At a terminal").
use Rattle.std.specs.Prelude.{◌≡◌, ◌⊎◌, ℕ, Bool, true, false, List, Option, Result, Err}
use Rattle.std.specs.Io.KnownBytes.{Keeps}
use Rattle.store_disk.specs.declared.disk.Disk.{Ghosts}
use Rattle.store_project.specs.States.{State}
use Rattle.store_project.specs.declared.error.ProjectError.{ProjectError}
use Rattle.cli_refusals.specs.Refusals.{IsOfOpening}
use Rattle.cli_refusals.specs.declared.refusal.Refusal.{Refusal}
use Rattle.cli_refusals.specs.declared.refusal.Refusal.TheVariants as of
use Rattle.cli_words.specs.declared.asked.Request.{Request}
use Rattle.cli_words.specs.declared.asked.Request.TheVariants.{Scratch, Edit}
use Rattle.cli_requests.specs.Typing.{TypesOver, IsTypedInMemory}

-- a person may type lines to the request
abbrev pub takes_lines : Request → Bool
takes_lines Scratch = true
takes_lines (Edit file) = true
takes_lines request = false

-- no project was opened, and nothing read or written; or there was a session over one
abbrev pub IsTypedInto : {D : Type 0} → Ghosts D → Result ℕ Refusal → Option (List ℕ)
    → Option (List ℕ) → Option (List ℕ) → Option (List ℕ) → Type 0
IsTypedInto {D = D} facts how reader-old reader-new writer-old writer-new =
    ((e : ProjectError) × (how ≡ Err (of.Project e)) × IsOfOpening e × Keeps reader-old reader-new
    × Keeps writer-old writer-new)
    ⊎ ((first : State D) × (last : State D) × (first.must_reopen ≡ false)
    × TypesOver facts first last how reader-old reader-new writer-old writer-new)

-- what was done for a request to which a person typed lines, and which ended so
abbrev pub IsTyped : {D : Type 0} → Ghosts D → Request → Result ℕ Refusal → Option (List ℕ)
    → Option (List ℕ) → Option (List ℕ) → Option (List ℕ) → Type 0
IsTyped facts Scratch how reader-old reader-new writer-old writer-new =
    IsTypedInMemory how reader-old reader-new writer-old writer-new
IsTyped facts (Edit file) how reader-old reader-new writer-old writer-new =
    IsTypedInto facts how reader-old reader-new writer-old writer-new
IsTyped facts request how reader-old reader-new writer-old writer-new = ⊥
