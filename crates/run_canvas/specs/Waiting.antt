-- A project with commands of a script that wait, and how they come to wait, are put and are lost.
use Rattle.std.specs.Prelude.{◌≡◌, ◌⊎◌, ℕ, Bool, true, false, List, [], ◌∷◌, ◌++◌, Option, None, Some, Result, Ok, Err, MatchOption, is_some, length}
use Rattle.store_disk.specs.declared.disk.Disk.{Ghosts}
use Rattle.store_journal.specs.State.{IsAbove}
use Rattle.map_tables.specs.Projects.{ProjectMaps, project_of}
use Rattle.map_commands.specs.ProjectLines.{Accepts}
use Rattle.store_project.specs.Calls.{Applies, PutsGroup}
use Rattle.store_project.specs.Groups.{CanPut, GroupState, IsFullFor, RefusesStage, Staged}
use Rattle.store_project.specs.Refusals.{code_of}
use Rattle.store_project.specs.States.{State}
use Rattle.store_project.specs.declared.error.ProjectError.{ProjectError}
use Rattle.store_project.specs.declared.error.ProjectError.TheVariants.{Device}
use Rattle.run_edit.specs.Editing.{outcome_in}

-- a project onto which a script is drawn: the project on its disk, the group of commands that wait,
-- if any do, whether an empty group is kept for the next that is to wait, whether each command is put
-- by itself, whether some that wait came with earlier lines than the one at hand, and whether such
-- were lost by it
pub record Drawing (D : Type 0) : Type 0 where
  pub project : State D
  pub group : Option GroupState
  pub has_spare : Bool
  pub is_alone : Bool
  pub holds_earlier : Bool
  pub has_lost : Bool

-- a project onto which nothing is drawn yet
abbrev pub first_drawing : {D : Type 0} → State D → Drawing D
first_drawing project = record {
  project = project;
  group = None;
  has_spare = false;
  is_alone = false;
  holds_earlier = false;
  has_lost = false;
}

-- the maps with the commands that wait
abbrev pub maps_behind : {D : Type 0} → State D → Option GroupState → ProjectMaps
maps_behind project None = project_of project.maps
maps_behind project (Some group) = project_of group.maps

-- the maps that a drawing has come to, with what waits
abbrev pub drawn_maps : {D : Type 0} → Drawing D → ProjectMaps
drawn_maps d = maps_behind d.project d.group

-- these commands wait
abbrev pub AreWaiting : {D : Type 0} → Drawing D → List Staged → Type 0
AreWaiting d staged = MatchOption d.group (staged ≡ []) (λ g. CanPut d.project g staged)

-- what waited was put, by one call of `put`; the maps are as they were drawn
pub record Settles {D : Type 0} (facts : Ghosts D) (old new : Drawing D) : Type 0 where
  pub none : new.group ≡ None
  pub maps : drawn_maps new ≡ drawn_maps old
  pub put : MatchOption old.group (new.project ≡ old.project)
      (λ g. (staged : List Staged) → CanPut old.project g staged
      → PutsGroup facts old.project staged (Ok tt) new.project)

-- what waited was put by one call of `put`, perhaps with more behind it, which failed: the project
-- has the maps that it had before, and must be reopened
pub record Loses {D : Type 0} (facts : Ghosts D) (old new : Drawing D) : Type 0 where
  pub some : (g : GroupState) × (old.group ≡ Some g)
  pub had : (staged : List Staged) × AreWaiting old staged
  pub put : (staged : List Staged) → AreWaiting old staged
      → (more : List Staged)
      × PutsGroup facts old.project (staged ++ more) (Err Device) new.project
  pub none : new.group ≡ None
  pub lost : new.has_lost ≡ old.holds_earlier

-- ---- Commands

-- the flags stay
pub record AreFlagsKept {D : Type 0} (old new : Drawing D) : Type 0 where
  pub alone : new.is_alone ≡ old.is_alone
  pub lost : new.has_lost ≡ old.has_lost

-- an accepted command waits behind the others, and nothing was put
pub record IsStaged {D : Type 0} (old : Drawing D) (line : List ℕ) (number : ℕ) (new : Drawing D) :
    Type 0 where
  pub together : old.is_alone ≡ false
  pub ready : old.project.must_reopen ≡ false
  pub project : new.project ≡ old.project
  pub accepts : Accepts old.project.cap (drawn_maps old) line (drawn_maps new) number
  pub had : (staged : List Staged) × AreWaiting old staged
  pub waits : (staged : List Staged) → AreWaiting old staged
      → AreWaiting new (staged ++ record { line = line; number = number } ∷ [])
  pub earlier : MatchOption old.group (new.holds_earlier ≡ false)
      (λ g. new.holds_earlier ≡ old.holds_earlier)
  pub flags : AreFlagsKept old new

-- the same commands wait, and nothing was put
pub record IsUnchanged {D : Type 0} (old new : Drawing D) : Type 0 where
  pub project : new.project ≡ old.project
  pub maps : drawn_maps new ≡ drawn_maps old
  pub both : is_some new.group ≡ is_some old.group
  pub had : (staged : List Staged) × AreWaiting old staged
  pub waits : (staged : List Staged) → AreWaiting old staged → AreWaiting new staged
  pub earlier : new.holds_earlier ≡ old.holds_earlier
  pub flags : AreFlagsKept old new

-- a command was decided behind those that wait: it waits too, or is refused
abbrev pub Stages : {D : Type 0} → Drawing D → List ℕ → Result ℕ ℕ → Drawing D → Type 0
Stages old line (Ok number) new = IsStaged old line number new
Stages old line (Err code) new = IsUnchanged old new
    × ((e : ProjectError) × (code ≡ code_of e)
    × RefusesStage e old.project.cap (drawn_maps old) line)

-- what waited was put, and then the command by itself: `apply` met its contract, and the outcome is
-- its result
pub record IsApplied {D : Type 0} (facts : Ghosts D) (old : Drawing D) (line : List ℕ)
    (outcome : Result ℕ ℕ) (new : Drawing D) : Type 0 where
  pub mid : Drawing D
  pub settled : Settles facts old mid
  pub answer : Result ℕ ProjectError
  pub applied : Applies facts mid.project line answer new.project
  pub is : outcome ≡ outcome_in answer
  pub none : new.group ≡ None
  pub flags : AreFlagsKept old new

-- the command was put with others behind it by one call of `put`, which failed: they are lost
pub record IsLostWith {D : Type 0} (facts : Ghosts D) (old : Drawing D) (line : List ℕ)
    (new : Drawing D) : Type 0 where
  pub first : old.group ≡ None
  pub number : ℕ
  pub more : List Staged
  pub put : PutsGroup facts old.project (record { line = line; number = number } ∷ more)
      (Err Device) new.project
  pub none : new.group ≡ None
  pub lost : new.has_lost ≡ false

-- Why a command is put by itself: each one is; or the journal has no room for it behind those that
-- wait, or alone if none waits; or none waits and no empty group is kept, and there may be no memory
-- for one.
abbrev pub CannotWait : {D : Type 0} → Drawing D → List ℕ → Type 0
CannotWait old line = (old.is_alone ≡ true)
    ⊎ MatchOption old.group
    (IsAbove old.project.room (length line) ⊎ (old.has_spare ≡ false))
    (λ g. IsFullFor old.project g line)

-- How a command of a script ended. It was decided behind those that wait; or it can't wait: it was put
-- by itself, behind what waited, or that was lost (30). Or it was lost with others behind it (30).
abbrev pub ChangesProject : {D : Type 0} → Ghosts D → Drawing D → List ℕ → Result ℕ ℕ → Drawing D
    → Type 0
ChangesProject facts old line outcome new =
    Stages old line outcome new
    ⊎ ((CannotWait old line × (IsApplied facts old line outcome new
    ⊎ ((outcome ≡ Err 30) × Loses facts old new)))
    ⊎ ((outcome ≡ Err 30) × IsLostWith facts old line new))

-- ---- A line

-- a line is begun: what waits may be put before it
pub record BeginsLine {D : Type 0} (facts : Ghosts D) (old : Drawing D) (alone : Bool)
    (new : Drawing D) : Type 0 where
  pub mid : Drawing D
  pub settled : (mid ≡ old) ⊎ Settles facts old mid
  pub is : new ≡ record {
    project = mid.project;
    group = mid.group;
    has_spare = mid.has_spare;
    is_alone = alone;
    holds_earlier = is_some mid.group;
    has_lost = false;
  }
