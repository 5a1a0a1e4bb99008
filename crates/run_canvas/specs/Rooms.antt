-- Room in the journal for the commands of a shape, which are to wait together (docs/COMMANDS.md,
-- "Shapes").
use Rattle.std.specs.Prelude.{◌≡◌, ◌⊎◌, ℕ, ◌-◌, true, false, List, Option, None, Some, Result, Ok, Err, is_some, length}
use Rattle.store_disk.specs.declared.disk.Disk.{Ghosts}
use Rattle.store_project.specs.Calls.{Checkpoints}
use Rattle.store_project.specs.Groups.{GroupState, LacksRoom}
use Rattle.store_project.specs.Refusals.{code_of}
use Rattle.store_project.specs.States.{State}
use Rattle.store_project.specs.declared.error.ProjectError.{ProjectError}
use Rattle.store_project.specs.declared.error.ProjectError.TheVariants.{OutOfMemory, Reopen}
use Rattle.run_canvas.specs.Waiting.{AreFlagsKept, Drawing, Loses, Settles}

-- how many bytes of the journal what waits takes
abbrev pub waiting_len : Option GroupState → ℕ
waiting_len None = 0
waiting_len (Some group) = length group.bytes - 1

-- the journal has no room for these lines behind what waits
abbrev pub LacksRoomFor : {D : Type 0} → Drawing D → List (List ℕ) → Type 0
LacksRoomFor d lines = LacksRoom d.project (waiting_len d.group) lines

-- a checkpoint was made, with this answer
pub record IsCheckpointed {D : Type 0} (facts : Ghosts D) (old : Drawing D)
    (answer : Result ℕ ProjectError) (new : Drawing D) : Type 0 where
  pub made : Checkpoints facts old.project answer new.project
  pub others : new ≡ record old { project = new.project }

-- The journal has room for these lines, and nothing was done; or it had none, and a checkpoint has
-- emptied it, or was refused with this code.
abbrev pub TurnsFor : {D : Type 0} → Ghosts D → Drawing D → List (List ℕ) → Option ℕ → Drawing D
    → Type 0
TurnsFor facts old lines None new =
    ((¬ LacksRoomFor old lines) × (new ≡ old))
    ⊎ (LacksRoomFor old lines × ((n : ℕ) × IsCheckpointed facts old (Ok n) new))
TurnsFor facts old lines (Some code) new =
    LacksRoomFor old lines
    × ((e : ProjectError) × (code ≡ code_of e) × IsCheckpointed facts old (Err e) new)

-- what waited was put, since the journal had no room for these lines behind it
pub record PutsBefore {D : Type 0} (facts : Ghosts D) (old : Drawing D) (lines : List (List ℕ))
    (new : Drawing D) : Type 0 where
  pub lacked : LacksRoomFor old lines
  pub settled : Settles facts old new
  pub flags : AreFlagsKept old new

-- The journal has room for these lines behind what waits, and nothing was done. Else what waits was
-- put, and then the journal emptied if it had no room for them still. A refusal is 30, and what waited
-- is lost; or it is the checkpoint's.
abbrev pub ClearsJournal : {D : Type 0} → Ghosts D → Drawing D → List (List ℕ) → Option ℕ
    → Drawing D → Type 0
ClearsJournal {D = D} facts old lines None new =
    ((¬ LacksRoomFor old lines) × (new ≡ old))
    ⊎ ((mid : Drawing D) × PutsBefore facts old lines mid × TurnsFor facts mid lines None new)
ClearsJournal {D = D} facts old lines (Some code) new =
    ((code ≡ 30) × LacksRoomFor old lines × Loses facts old new)
    ⊎ ((mid : Drawing D) × PutsBefore facts old lines mid
    × TurnsFor facts mid lines (Some code) new)

-- a command has a group to wait in: that of those that wait, or an empty one that is kept
abbrev pub HasGroup : {D : Type 0} → Drawing D → Type 0
HasGroup d = (is_some d.group ≡ true) ⊎ (d.has_spare ≡ true)

-- why no group can be begun: the project must be reopened, or there is no memory for its maps again
abbrev pub RefusesGroup : {D : Type 0} → ProjectError → State D → Type 0
RefusesGroup Reopen project = project.must_reopen ≡ true
RefusesGroup OutOfMemory project = project.must_reopen ≡ false
RefusesGroup _ project = ⊥

-- a command has a group to wait in, and nothing was done; or an empty one was begun, or couldn't be
abbrev pub BeginsGroup : {D : Type 0} → Drawing D → Option ℕ → Drawing D → Type 0
BeginsGroup old None new =
    (HasGroup old × (new ≡ old))
    ⊎ ((old.group ≡ None) × (new ≡ record old { has_spare = true }))
BeginsGroup old (Some code) new =
    (old.group ≡ None) × (old.has_spare ≡ false) × (new ≡ old)
    × ((e : ProjectError) × (code ≡ code_of e) × RefusesGroup e old.project)

-- What is done for lines that are to wait together: nothing, if each command is put by itself. Else the
-- journal is cleared for them, and then an empty group begun, if none waits; each may be refused.
abbrev pub MakesRoom : {D : Type 0} → Ghosts D → Drawing D → List (List ℕ) → Option ℕ → Drawing D
    → Type 0
MakesRoom {D = D} facts old lines None new =
    ((old.is_alone ≡ true) × (new ≡ old))
    ⊎ ((old.is_alone ≡ false) × (mid : Drawing D) × ClearsJournal facts old lines None mid
    × BeginsGroup mid None new)
MakesRoom {D = D} facts old lines (Some code) new =
    (old.is_alone ≡ false) × (ClearsJournal facts old lines (Some code) new
    ⊎ ((mid : Drawing D) × ClearsJournal facts old lines None mid
    × BeginsGroup mid (Some code) new))
