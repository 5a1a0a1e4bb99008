-- How the calls of a project end.
use Rattle.std.specs.Prelude.{◌≡◌, ◌≢◌, ◌≤◌, ◌⊎◌, ◌+◌, ◌-◌, ◌^◌, ℕ, true, false, List, length, Option, Some, Result, Ok, Err}
use Rattle.store_disk.specs.Stops.{Rose}
use Rattle.store_disk.specs.declared.disk.Disk.{Ghosts}
use Rattle.store_journal.specs.State.{IsAbove}
use Rattle.map_tables.specs.Projects.{ProjectMaps, project_of}
use Rattle.map_commands.specs.Errors as commands
use Rattle.map_commands.specs.ProjectCommands.{InProjectRange, project_spelling}
use Rattle.map_commands.specs.ProjectLines.{RefusesLine}
use Rattle.map_commands.specs.ProjectLines.{Accepts, LeadsTo}
use Rattle.map_commands.specs.ProjectReadiness.{project_need_of}
use Rattle.map_tables.specs.Outcomes.{no_need}
use Rattle.map_commands.specs.declared.project.command.ProjectCommand.{ProjectCommand}
use Rattle.store_project.specs.States.{State}
use Rattle.store_project.specs.declared.error.ProjectError.{ProjectError}
use Rattle.store_project.specs.declared.error.ProjectError.TheVariants.{Device, OutOfMemory, Reopen, GenerationsSpent, Refused}

-- the line is a command that adds items to the current map
pub record IsAddition (line : List ℕ) : Type 0 where
  pub command : ProjectCommand
  pub range : InProjectRange command
  pub line_is : line ≡ project_spelling command
  pub adds : project_need_of command ≢ no_need

-- the line can need memory: it adds items, or the journal has no room for it, so that a checkpoint
-- comes first
abbrev pub CanLack : Option ℕ → List ℕ → Type 0
CanLack room line = IsAddition line ⊎ IsAbove room (length line)

-- How an `apply` was refused. Only after `Device` must the project be opened again, and only
-- `Reopen` leaves it so. Memory is lacking only for a line that leads on.
abbrev pub RefusesApply : {D : Type 0} → Ghosts D → ProjectError → State D → State D → List ℕ
    → Type 0
RefusesApply facts Device old new line =
    (old.must_reopen ≡ false) × (new.must_reopen ≡ true)
    × Rose (facts.failures old.disk) (facts.failures new.disk)
RefusesApply facts OutOfMemory old new line =
    (old.must_reopen ≡ false) × (new.must_reopen ≡ false)
    × ((next : ProjectMaps) × LeadsTo old.cap (project_of old.maps) line next)
RefusesApply facts Reopen old new line = (old.must_reopen ≡ true) × (new ≡ old)
RefusesApply facts GenerationsSpent old new line =
    (old.must_reopen ≡ false) × (new.must_reopen ≡ false) × (old.generation ≡ 2 ^ 64 - 1)
    × IsAbove old.room (length line)
    × ((next : ProjectMaps) × LeadsTo old.cap (project_of old.maps) line next)
RefusesApply facts (Refused e) old new line =
    (old.must_reopen ≡ false) × (new.must_reopen ≡ false)
    × RefusesLine old.cap (project_of old.maps) line (commands.code_of e)
RefusesApply facts _ old new line = ⊥

-- how an `apply` ended: with the command's number and its map, or refused with the map as it was
abbrev pub EndsApply : {D : Type 0} → Ghosts D → Result ℕ ProjectError → State D → State D → List ℕ
    → Type 0
EndsApply facts (Ok n) old new line =
    (old.must_reopen ≡ false) × (new.must_reopen ≡ false)
    × Accepts old.cap (project_of old.maps) line (project_of new.maps) n
EndsApply facts (Err e) old new line = (project_of new.maps ≡ project_of old.maps)
    × RefusesApply facts e old new line

-- how a `checkpoint` was refused
abbrev pub RefusesCheckpoint : {D : Type 0} → Ghosts D → ProjectError → State D → State D → Type 0
RefusesCheckpoint facts Device old new =
    (old.must_reopen ≡ false) × (new.must_reopen ≡ true)
    × Rose (facts.failures old.disk) (facts.failures new.disk)
RefusesCheckpoint facts OutOfMemory old new = (old.must_reopen ≡ false) × (new ≡ old)
RefusesCheckpoint facts Reopen old new = (old.must_reopen ≡ true) × (new ≡ old)
RefusesCheckpoint facts GenerationsSpent old new = (old.must_reopen ≡ false) × (new ≡ old)
    × (old.generation ≡ 2 ^ 64 - 1)
RefusesCheckpoint facts _ old new = ⊥

-- how a `checkpoint` ended: with the next generation, or refused; the map stays
abbrev pub EndsCheckpoint : {D : Type 0} → Ghosts D → Result ℕ ProjectError → State D → State D
    → Type 0
EndsCheckpoint facts (Ok g) old new =
    (old.must_reopen ≡ false) × (new.must_reopen ≡ false) × (g ≡ old.generation + 1)
    × (new.generation ≡ g)
EndsCheckpoint facts (Err e) old new = RefusesCheckpoint facts e old new

-- a journal with this room takes any line
abbrev pub IsFresh : Option ℕ → Type 0
IsFresh room = (len : ℕ) → len ≤ 256 → ¬ IsAbove room len

-- the journal has no record: what isn't for a line is five bytes before it, and the gate behind it
abbrev pub IsEmptied : {D : Type 0} → State D → Type 0
IsEmptied project = project.room ≡ Some (project.journal - 6)

-- how a call ended that was to make room for a line of so many bytes
abbrev pub EndsRoom : {D : Type 0} → Ghosts D → Result Unit ProjectError → State D → State D → ℕ
    → Type 0
EndsRoom facts (Ok _) old new len = (new.must_reopen ≡ false) × (¬ IsAbove new.room len)
EndsRoom facts (Err e) old new len = RefusesCheckpoint facts e old new × IsAbove old.room len

-- the generation rose by one where the journal had no room for so many bytes, and else it is as
-- before
abbrev pub TurnsWhereFull : {D : Type 0} → State D → State D → ℕ → Type 0
TurnsWhereFull old new len = (IsAbove old.room len → new.generation ≡ old.generation + 1)
    × (¬ IsAbove old.room len → new.generation ≡ old.generation)
