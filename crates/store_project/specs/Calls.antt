-- The calls of a session, each with its answer.
use Rattle.std.specs.Prelude.{◌≡◌, ◌⊎◌, ℕ, Bool, true, false, if◌then◌else◌, List, [], ◌∷◌, flat_map, Result, Ok, Err, IfErr, IsErrOf, OnOk}
use Rattle.store_disk.specs.Moments.{LeavesOnly}
use Rattle.store_disk.specs.declared.disk.Disk.{Ghosts}
use Rattle.map_tables.specs.Projects.{ProjectMaps, project_of}
use Rattle.store_project.specs.Groups.{AcceptsAll, EndsPut, Staged, staged_lines}
use Rattle.store_project.specs.Stands.{IsOutcome, StandsFor, StandsForEither}
use Rattle.store_project.specs.States.{State, IsProjectKept}
use Rattle.store_project.specs.Outcomes.{CanLack, EndsApply, EndsCheckpoint, IsEmptied}
use Rattle.store_project.specs.declared.error.ProjectError.{ProjectError}
use Rattle.store_project.specs.declared.error.ProjectError.TheVariants.{Device, OutOfMemory}

-- a call that may write, and what it answered: `apply` of a line, `checkpoint`, or `put` of a group of
-- lines, each with the number that it was answered
pub data ProjectCall : Type 0 where
  Apply : List ℕ → Result ℕ ProjectError → ProjectCall
  Checkpoint : Result ℕ ProjectError → ProjectCall
  Put : List Staged → Result Unit ProjectError → ProjectCall

-- the lines that a call acknowledged
abbrev pub acknowledged_by : ProjectCall → List (List ℕ)
acknowledged_by (Apply line (Ok n)) = line ∷ []
acknowledged_by (Apply line (Err e)) = []
acknowledged_by (Checkpoint answer) = []
acknowledged_by (Put staged (Ok done)) = staged_lines staged
acknowledged_by (Put staged (Err e)) = []

-- the lines that were acknowledged
abbrev pub acknowledged : List ProjectCall → List (List ℕ)
acknowledged calls = flat_map acknowledged_by calls

-- an answer to lines that were accepted and begun
abbrev pub begins : {T : Type 0} → Result T ProjectError → Bool
begins (Ok n) = true
begins (Err Device) = true
begins (Err _) = false

-- the lines that were accepted and begun by a call
abbrev pub accepted_by : ProjectCall → List (List ℕ)
accepted_by (Apply line answer) = if begins answer then line ∷ [] else []
accepted_by (Checkpoint answer) = []
accepted_by (Put staged answer) = if begins answer then staged_lines staged else []

-- the lines that were accepted and begun
abbrev pub accepted : List ProjectCall → List (List ℕ)
accepted calls = flat_map accepted_by calls

-- what `apply` promises
pub record Applies {D : Type 0} (facts : Ghosts D)
    (old : State D) (line : List ℕ) (answer : Result ℕ ProjectError) (new : State D) : Type 0 where
  pub ends : EndsApply facts answer old new line
  pub any_moment : old.must_reopen ≡ false
      → LeavesOnly facts old.disk new.disk (IsOutcome old.cap (project_of old.maps) line)
  pub refused_moment : IfErr answer (λ e. old.must_reopen ≡ false → (e ≡ Device)
      ⊎ LeavesOnly facts old.disk new.disk (StandsFor old.cap (project_of old.maps)))
  pub memory : IsErrOf answer OutOfMemory → CanLack old.room line
  pub kept : IsProjectKept facts new
  pub same_cap : new.cap ≡ old.cap

-- what `checkpoint` promises
pub record Checkpoints {D : Type 0} (facts : Ghosts D)
    (old : State D) (answer : Result ℕ ProjectError) (new : State D) : Type 0 where
  pub ends : EndsCheckpoint facts answer old new
  pub maps : new.maps ≡ old.maps
  pub any_moment : old.must_reopen ≡ false
      → LeavesOnly facts old.disk new.disk (StandsFor old.cap (project_of old.maps))
  pub emptied : OnOk answer (IsEmptied new)
  pub kept : IsProjectKept facts new
  pub same_cap : new.cap ≡ old.cap
  pub same_journal : new.journal ≡ old.journal

-- what `put` promises of a group of these lines
pub record PutsGroup {D : Type 0} (facts : Ghosts D)
    (old : State D) (staged : List Staged) (answer : Result Unit ProjectError) (new : State D) :
    Type 0 where
  pub after : ProjectMaps
  pub accepted : AcceptsAll old.cap (project_of old.maps) staged after
  pub ends : EndsPut facts answer old new after
  pub any_moment : old.must_reopen ≡ false → LeavesOnly facts old.disk new.disk
      (StandsForEither old.cap (project_of old.maps) after)
  pub kept : IsProjectKept facts new
  pub same_cap : new.cap ≡ old.cap

-- one call
abbrev pub Made : {D : Type 0} → Ghosts D → State D → ProjectCall → State D → Type 0
Made facts old (Apply line answer) new = Applies facts old line answer new
Made facts old (Checkpoint answer) new = Checkpoints facts old answer new
Made facts old (Put staged answer) new = PutsGroup facts old staged answer new

-- calls in turn
abbrev pub AllMade : {D : Type 0} → Ghosts D → State D → List ProjectCall → State D → Type 0
AllMade facts old [] new = new ≡ old
AllMade {D = D} facts old (call ∷ calls) new =
    (mid : State D) × Made facts old call mid × AllMade facts mid calls new
