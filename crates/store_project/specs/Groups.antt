-- Commands that are decided one after another and go to the disk together.
use Rattle.std.specs.Prelude.{◌≡◌, ◌<◌, ◌+◌, ◌-◌, ℕ, true, false, List, [], ◌∷◌, ◌++◌, length, map, Option, Some, None, Result, Ok, Err}
use Rattle.store_disk.specs.Stops.{Rose}
use Rattle.store_disk.specs.declared.disk.Disk.{Ghosts}
use Rattle.store_journal.specs.Groups.{IsGroupOf}
use Rattle.store_journal.specs.Records.{records_bytes}
use Rattle.store_journal.specs.State.{IsAbove}
use Rattle.map_tables.specs.Projects.{MapsView, ProjectMaps, project_of}
use Rattle.map_commands.specs.Errors as commands
use Rattle.map_commands.specs.ProjectLines.{Accepts, LeadsTo, RefusesLine}
use Rattle.store_project.specs.States.{State}
use Rattle.store_project.specs.declared.error.ProjectError.{ProjectError}
use Rattle.store_project.specs.declared.error.ProjectError.TheVariants.{Device, OutOfMemory, Reopen, Refused}

-- what a contract sees of a group: the maps after its lines, and what these lines are in a journal
pub record GroupState : Type 0 where
  pub maps : MapsView
  pub bytes : List ℕ

-- a line that was accepted, and the number that it was answered
pub record Staged : Type 0 where
  pub line : List ℕ
  pub number : ℕ

-- the lines alone
abbrev pub staged_lines : List Staged → List (List ℕ)
staged_lines staged = map (λ s. s.line) staged

-- the lines lead from one project to the other, each accepted with its number
abbrev pub AcceptsAll : ℕ → ProjectMaps → List Staged → ProjectMaps → Type 0
AcceptsAll cap old [] new = new ≡ old
AcceptsAll cap old (s ∷ staged) new =
    (mid : ProjectMaps) × Accepts cap old s.line mid s.number × AcceptsAll cap mid staged new

-- The group holds these lines. They lead from the project's maps to the group's, and the project's
-- journal has room for them.
pub record CanPut {D : Type 0} (project : State D) (group : GroupState) (staged : List Staged) :
    Type 0 where
  pub lines : IsGroupOf (staged_lines staged) group.bytes
  pub accepted : AcceptsAll project.cap (project_of project.maps) staged (project_of group.maps)
  pub room : 1 < length group.bytes → ¬ IsAbove project.room (length group.bytes - 6)

-- the same of some lines
abbrev pub IsGroupFor : {D : Type 0} → State D → GroupState → Type 0
IsGroupFor project group = (staged : List Staged) × CanPut project group staged

-- the project's journal has no room for the group's lines and this one behind them
abbrev pub IsFullFor : {D : Type 0} → State D → GroupState → List ℕ → Type 0
IsFullFor project group line = IsAbove project.room (length group.bytes - 1 + length line)

-- the project's journal has no room for the records of these lines behind others that take so many
-- bytes
abbrev pub LacksRoom : {D : Type 0} → State D → ℕ → List (List ℕ) → Type 0
LacksRoom project behind lines = IsAbove project.room (behind + length (records_bytes lines) - 5)

-- the group has the lines and the maps that it had
abbrev pub IsSameGroup : GroupState → GroupState → Type 0
IsSameGroup old new = (new.bytes ≡ old.bytes) × (project_of new.maps ≡ project_of old.maps)

-- How a `stage` of a line over these maps was refused: as an `apply` of it would be. Memory is
-- lacking only for a line that leads on.
abbrev pub RefusesStage : ProjectError → ℕ → ProjectMaps → List ℕ → Type 0
RefusesStage OutOfMemory cap maps line = (next : ProjectMaps) × LeadsTo cap maps line next
RefusesStage (Refused e) cap maps line = RefusesLine cap maps line (commands.code_of e)
RefusesStage _ cap maps line = ⊥

-- How a `stage` ended: the line was accepted over the group's maps, with a number; or it is one
-- that they accept, and the journal has no room for it; or it was refused. Without a number the
-- group is as it was.
abbrev pub EndsStage : {D : Type 0} → State D → Result (Option ℕ) ProjectError → GroupState
    → GroupState → List ℕ → Type 0
EndsStage project (Ok (Some n)) old new line = (¬ IsFullFor project old line)
    × Accepts project.cap (project_of old.maps) line (project_of new.maps) n
EndsStage project (Ok None) old new line = IsFullFor project old line
    × ((next : ProjectMaps) × LeadsTo project.cap (project_of old.maps) line next)
    × IsSameGroup old new
EndsStage project (Err e) old new line =
    RefusesStage e project.cap (project_of old.maps) line × IsSameGroup old new

-- the lines of a group after a `stage` of one more
abbrev pub staged_after : List Staged → List ℕ → Result (Option ℕ) ProjectError → List Staged
staged_after staged line (Ok (Some n)) = staged ++ record { line = line; number = n } ∷ []
staged_after staged line _ = staged

-- how a `put` was refused: only after `Device` must the project be opened again, and only `Reopen`
-- leaves it so
abbrev pub RefusesToPut : {D : Type 0} → Ghosts D → ProjectError → State D → State D → Type 0
RefusesToPut facts Device old new = (old.must_reopen ≡ false) × (new.must_reopen ≡ true)
    × Rose (facts.failures old.disk) (facts.failures new.disk)
RefusesToPut facts Reopen old new = (old.must_reopen ≡ true) × (new ≡ old)
RefusesToPut facts _ old new = ⊥

-- how a `put` of lines that lead to these maps ended: they are the project's, or it was refused with
-- the maps as they were
abbrev pub EndsPut : {D T : Type 0} → Ghosts D → Result T ProjectError → State D → State D
    → ProjectMaps → Type 0
EndsPut facts (Ok _) old new maps = (old.must_reopen ≡ false) × (new.must_reopen ≡ false)
    × (project_of new.maps ≡ maps) × (new.generation ≡ old.generation)
EndsPut facts (Err e) old new maps = (project_of new.maps ≡ project_of old.maps)
    × RefusesToPut facts e old new
