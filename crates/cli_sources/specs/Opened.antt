-- Whose maps they are: those of the project that a disk's bytes stand for, over a disk that is handed
-- over and tells them. A real file tells none.
use Rattle.std.specs.Prelude.{◌≡◌, ◌⊎◌, ℕ, false, Option, Result, Err, List}
use Rattle.std.specs.Io.KnownBytes.{Keeps}
use Rattle.store_disk.specs.Stops.{Each, Rose}
use Rattle.store_disk.specs.declared.disk.Disk.{Ghosts}
use Rattle.map_tables.specs.Projects.{MapsView, project_of}
use Rattle.store_project.specs.Opening.{HasMaps, IsRefusedRead, StandsOnlyFor}
use Rattle.store_project.specs.States.{State}
use Rattle.store_project.specs.declared.error.ProjectError.{ProjectError}
use Rattle.store_project.specs.declared.error.ProjectError.TheVariants.{Device}
use Rattle.run_edit.specs.Recovery.{IsOnlyRead}
use Rattle.cli_refusals.specs.Refusals.{IsOfOpening}
use Rattle.cli_refusals.specs.declared.refusal.Refusal.{Refusal}
use Rattle.cli_refusals.specs.declared.refusal.Refusal.TheVariants as of

-- a project that was opened: the one that the disk's bytes stand for; the disk was only read
pub record IsOpenedFrom {D : Type 0} (facts : Ghosts D) (before : D)
    (first : State D) : Type 0 where
  pub reopen : first.must_reopen ≡ false
  pub stands : Each (facts.reads before)
      (StandsOnlyFor first.cap (project_of first.maps) first.generation)
  pub only_read : IsOnlyRead facts before first.disk

-- a fault of the device is told only where the disk's count of failures rose
abbrev pub IsFaultCounted : {D : Type 0} → Ghosts D → D → D → ProjectError → Type 0
IsFaultCounted facts before after e =
    e ≡ Device → Rose (facts.failures before) (facts.failures after)

-- no project was opened, because of the disk's bytes, by a fault that is counted or for lack of
-- memory
abbrev pub NotOpened : {D : Type 0} → Ghosts D → D → D → Result ℕ Refusal → Type 0
NotOpened facts before after how =
    (e : ProjectError) × (how ≡ Err (of.Project e)) × IsRefusedRead (facts.reads before) e
    × IsFaultCounted facts before after e

-- no project was opened and nothing written, or this was done with the maps that the disk's bytes
-- stand for
abbrev pub OverMaps : {D : Type 0} → Ghosts D → D → D → Result ℕ Refusal → Option (List ℕ)
    → Option (List ℕ) → (MapsView → Type 0) → Type 0
OverMaps facts before after how writer-old writer-new does =
    (NotOpened facts before after how × Keeps writer-old writer-new)
    ⊎ ((maps : MapsView) × HasMaps (facts.reads before) maps × does maps)

-- no project was opened, and nothing was written
abbrev pub EndsUnopened : Result ℕ Refusal → Option (List ℕ) → Option (List ℕ) → Type 0
EndsUnopened how writer-old writer-new =
    (e : ProjectError) × (how ≡ Err (of.Project e)) × IsOfOpening e × Keeps writer-old writer-new
