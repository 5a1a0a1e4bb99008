-- What the fields of a project tell of, and what they keep.
use Rattle.std.specs.Prelude.{◌≡◌, ◌≤◌, ℕ, List, false, All, map}
use Rattle.store_disk.specs.Stops.{Each}
use Rattle.store_disk.specs.declared.disk.Disk.{Ghosts}
use Rattle.store_journal.specs.Groups.{IsGroupOf}
use Rattle.store_journal.specs.Records.{EndsAt}
use Rattle.store_journal.specs.State.{room_of}
use Rattle.store_slots.specs.Handles.{first_area, second_of, slot_of, generation_of, HasSomeSlots}
use Rattle.map_tables.specs.Projects.{body_len, project_of}
use Rattle.map_commands.specs.ProjectCommands.{InProjectRange, project_spelling}
use Rattle.map_commands.specs.declared.project.command.ProjectCommand.{ProjectCommand}
use Rattle.store_project.specs.Places.{IsAllowed, AreLaidOut, cap_of, which_parts}
use Rattle.store_project.specs.Stands.{HasGeometry, StandsAt}
use Rattle.store_project.specs.States.{State}
use Rattle.store_project.specs.declared.places.Parts.{Parts}
use Rattle.store_project.specs.declared.project.Project.TheInside.{Inside}

-- what a contract sees of the fields
abbrev pub project_state : {D : Type 0} → Inside D → State D
project_state p = record {
  disk = p.disk;
  maps = p.maps;
  generation = generation_of p.slots;
  must_reopen = p.must_reopen;
  cap = cap_of p.geometry;
  journal = p.geometry.journal;
  room = room_of p.journal;
}

-- the live slot and the other one, each with its journal
abbrev pub parts_in : {D : Type 0} → Inside D → Parts
parts_in p = which_parts p.places (slot_of p.slots)

-- what holds of each project: its parts stand where its geometry says, and its map's body fits
pub record IsProjectFramed {D : Type 0} (p : Inside D) : Type 0 where
  pub allowed : IsAllowed p.geometry.slot p.geometry.journal
  pub laid_out : AreLaidOut p.geometry p.places
  pub first : first_area p.slots ≡ p.places.a
  pub second : second_of p.slots ≡ p.places.b
  pub which : slot_of p.slots ≤ 1
  pub journal : p.journal.area ≡ (parts_in p).journal
  pub fits : body_len (project_of p.maps) ≤ cap_of p.geometry

-- what holds of a project that needn't be opened again: each image of its disk stands for its map
pub record IsReady {D : Type 0} (facts : Ghosts D) (p : Inside D) : Type 0 where
  pub journal : p.journal.must_reopen ≡ false
  pub geometry : Each (facts.may_leave p.disk) (HasGeometry p.geometry p.places)
  pub stands : Each (facts.may_leave p.disk)
      (StandsAt (cap_of p.geometry) (parts_in p) (project_of p.maps) (generation_of p.slots))
  pub slots : Each (facts.may_leave p.disk) (HasSomeSlots p.slots)
  pub ends : Each (facts.may_leave p.disk) (EndsAt p.journal.area p.journal.next)

-- what each project keeps
pub record IsProjectSound {D : Type 0} (facts : Ghosts D) (p : Inside D) : Type 0 where
  pub framed : IsProjectFramed p
  pub ready : p.must_reopen ≡ false → IsReady facts p

-- the bytes are a group of the lines that these commands are, which are in range
abbrev pub IsGroupOfCommands : List ProjectCommand → List ℕ → Type 0
IsGroupOfCommands commands bytes =
    IsGroupOf (map project_spelling commands) bytes × All InProjectRange commands
