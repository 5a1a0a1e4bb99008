-- Whose project a script is drawn onto: over a disk that tells its bytes.
use Rattle.std.specs.Prelude.{◌⊎◌, ℕ, Bool, List, Option, Result}
use Rattle.std.specs.Io.KnownBytes.{Keeps}
use Rattle.store_disk.specs.declared.disk.Disk.{Ghosts}
use Rattle.store_project.specs.States.{State}
use Rattle.run_canvas.specs.Canvases.{draft_over}
use Rattle.run_edit.specs.Recovery.{IsOnlyRead}
use Rattle.cli_scripts.specs.Drawing.{IsTriedOver}
use Rattle.cli_scripts.specs.DrawnInto.{IsDrawnOrLeft}
use Rattle.cli_sources.specs.Opened.{IsOpenedFrom, NotOpened}
use Rattle.cli_refusals.specs.declared.refusal.Refusal.{Refusal}

-- No project was opened, and nothing written; or the lines of the script were drawn onto the one
-- that the disk's bytes stand for, or left, and the disk is as its calls left it.
abbrev pub IsDrawnOver : {D : Type 0} → Ghosts D → D → D → Bool → List (ℕ × List ℕ)
    → Result ℕ Refusal → Option (List ℕ) → Option (List ℕ) → Type 0
IsDrawnOver {D = D} facts before after verbose lines how writer-old writer-new =
    (NotOpened facts before after how × IsOnlyRead facts before after
    × Keeps writer-old writer-new)
    ⊎ ((project : State D) × IsOpenedFrom facts before project
    × IsDrawnOrLeft facts verbose lines how project after writer-old writer-new)

-- the same, but the lines were only tried over the project's maps, and the disk was only read
abbrev pub IsTriedOverDisk : {D : Type 0} → Ghosts D → D → D → Bool → List (ℕ × List ℕ)
    → Result ℕ Refusal → Option (List ℕ) → Option (List ℕ) → Type 0
IsTriedOverDisk {D = D} facts before after verbose lines how writer-old writer-new =
    IsOnlyRead facts before after
    × ((NotOpened facts before after how × Keeps writer-old writer-new)
    ⊎ ((project : State D) × IsOpenedFrom facts before project
    × IsTriedOver (draft_over project) verbose lines how writer-old writer-new))
