-- What a file is opened as, and why it isn't.
use Rattle.std.specs.Prelude.{◌≡◌, ◌<◌, ◌⊎◌, ◌+◌, ℕ, List, ◌∷◌, ◌++◌, length, Option, Some, None}
use Rattle.store_disk.specs.Stops.{Each}
use Rattle.store_journal.specs.Records.{records_bytes, EndsAt, IsJournal}
use Rattle.store_disk.specs.declared.area.Area.{Area}
use Rattle.store_slots.specs.Bodies.{IsLive}
use Rattle.store_slots.specs.Damage as damage
use Rattle.store_slots.specs.Handles.{generation_of, slot_of, HasSomeSlots}
use Rattle.store_slots.specs.declared.error.CheckpointError as slots
use Rattle.store_slots.specs.declared.error.CheckpointError.TheVariants as slot
use Rattle.map_tables.specs.Projects.{MapsView, ProjectMaps, WellFormedProject, project_of}
use Rattle.map_tables.specs.declared.error.MapError.{MapError}
use Rattle.map_tables.specs.declared.error.MapError.TheVariants as map
use Rattle.map_tables.specs.ProjectBody.{HasBody}
use Rattle.store_project.specs.Places.{cap_of, which_parts, IsAllowed}
use Rattle.store_project.specs.Stands.{HasGeometry, Stands, StandsAt}
use Rattle.map_commands.specs.ProjectLines.{Leads, LeadsTo}
use Rattle.store_project.specs.Damage.{HasBadGeometry, IsBadLine, IsBadPart, IsBlank, IsProjectDamagedAt, IsForeign, IsLeastGateFault}
use Rattle.store_project.specs.declared.opening.Opened.{Opened}
use Rattle.store_project.specs.declared.geometry.Geometry.{Geometry}
use Rattle.store_project.specs.declared.places.Places.{Places}
use Rattle.store_project.specs.declared.places.Parts.{Parts}
use Rattle.store_project.specs.declared.error.ProjectError.{ProjectError}
use Rattle.store_project.specs.declared.error.ProjectError.TheVariants.{Device, OutOfMemory, Damaged, Blank, NotAProject, NotEmpty, BadGeometry}

-- the file stands for what was opened
pub record IsOpened (o : Opened) (maps : ProjectMaps) (file : List ℕ) : Type 0 where
  pub has : HasGeometry o.geometry o.places file
  pub stands : StandsAt (cap_of o.geometry) (which_parts o.places (slot_of o.slots))
      maps (generation_of o.slots) file
  pub slots : HasSomeSlots o.slots file
  pub journal : EndsAt (which_parts o.places (slot_of o.slots)).journal o.journal.next file

-- the live slot of the parts holds this map, with this generation
pub record HoldsMap (parts : Parts) (generation : ℕ) (base : ProjectMaps) (file : List ℕ) :
    Type 0 where
  pub bytes : List ℕ
  pub well_formed : WellFormedProject base
  pub body : HasBody base bytes
  pub live : IsLive parts.live parts.other generation bytes file

-- a header is refused because the bytes have none, or one with lengths outside the limits
abbrev pub RefusesHeader : (List ℕ → Type 0) → ProjectError → Type 0
RefusesHeader reads Device = Unit {0}
RefusesHeader reads NotAProject = Each reads IsForeign
RefusesHeader reads BadGeometry = Each reads HasBadGeometry
RefusesHeader reads _ = ⊥

-- These lines were applied to a map in turn: all lead to the new one; or the first of them that is
-- no accepted command has its gate at this place, if the first gate of all stands at `at`.
abbrev pub AreReplayed : ℕ → ℕ → ProjectMaps → List (List ℕ) → Option ℕ → ProjectMaps → Type 0
AreReplayed cap at base lines None new = Leads cap base lines new
AreReplayed cap at base lines (Some place) new =
    (front : List (List ℕ)) × (line : List ℕ) × (back : List (List ℕ))
    × (lines ≡ front ++ line ∷ back)
    × (map : ProjectMaps) × Leads cap base front map
    × ((next : ProjectMaps) → ¬ LeadsTo cap map line next)
    × (place ≡ at + length (records_bytes front))

-- the lines for which an area of each of the files stands were applied to a map, and the closed
-- gate behind them stands so far into the area
pub record IsJournalReplayed (files : List ℕ → Type 0) (cap : ℕ) (area : Area) (base : ProjectMaps)
    (next : ℕ) (refused : Option ℕ) (new : ProjectMaps) : Type 0 where
  pub lines : List (List ℕ)
  pub journal : Each files (IsJournal area lines)
  pub len : length (records_bytes lines) ≡ next
  pub replayed : AreReplayed cap area.base base lines refused new

-- the slots are refused: none is open, or they or the live body are at fault
abbrev pub RefusesSlots : (List ℕ → Type 0) → Geometry → Places → ProjectError → Type 0
RefusesSlots reads g p Device = Unit {0}
RefusesSlots reads g p OutOfMemory = Unit {0}
RefusesSlots reads g p Blank = Each reads (damage.AreBlank p.a p.b)
RefusesSlots reads g p (Damaged place) = Each reads (IsBadPart g p place)
RefusesSlots reads g p _ = ⊥

-- the lines behind a map are refused: a gate of the journals or a line is at fault
abbrev pub RefusesLines : (List ℕ → Type 0) → ℕ → Parts → ProjectMaps → ProjectError → Type 0
RefusesLines reads cap parts base Device = Unit {0}
RefusesLines reads cap parts base OutOfMemory = Unit {0}
RefusesLines reads cap parts base (Damaged place) =
    Each reads (λ file. IsLeastGateFault parts place file ⊎ IsBadLine cap parts base place file)
RefusesLines reads cap parts base _ = ⊥

-- the file stands for this map with this generation, and for no other
pub record StandsOnlyFor (cap : ℕ) (map : ProjectMaps) (generation : ℕ) (file : List ℕ) :
    Type 0 where
  pub stands : Stands cap map generation file
  pub only : (c : ℕ) (other : ProjectMaps) (g : ℕ) → Stands c other g file → (c ≡ cap)
      × (other ≡ map) × (g ≡ generation)

-- the bytes stand for these maps, and for no others
abbrev pub HasMaps : (List ℕ → Type 0) → MapsView → Type 0
HasMaps reads maps =
    (cap generation : ℕ) × Each reads (StandsOnlyFor cap (project_of maps) generation)

-- why no project is made: the geometry is outside the limits, the file isn't empty, or the device
-- failed
abbrev pub RefusesCreate : (List ℕ → Type 0) → Geometry → ProjectError → Type 0
RefusesCreate reads g Device = IsAllowed g.slot g.journal
RefusesCreate reads g NotEmpty = IsAllowed g.slot g.journal × Each reads (λ file. 0 < length file)
RefusesCreate reads g BadGeometry = ¬ IsAllowed g.slot g.journal
RefusesCreate reads g _ = ⊥

-- why a file isn't opened: exactly the first of the reasons in their order
abbrev pub IsRefusedRead : (List ℕ → Type 0) → ProjectError → Type 0
IsRefusedRead reads Device = Unit {0}
IsRefusedRead reads OutOfMemory = Unit {0}
IsRefusedRead reads NotAProject = Each reads IsForeign
IsRefusedRead reads BadGeometry = Each reads HasBadGeometry
IsRefusedRead reads Blank = Each reads IsBlank
IsRefusedRead reads (Damaged place) = Each reads (IsProjectDamagedAt place)
IsRefusedRead reads _ = ⊥

-- a refusal of the slots as a project answers it
abbrev pub IsOfSlots : slots.CheckpointError → ProjectError → Type 0
IsOfSlots slot.Device e = e ≡ Device
IsOfSlots slot.OutOfMemory e = e ≡ OutOfMemory
IsOfSlots slot.Blank e = e ≡ Blank
IsOfSlots (slot.Damaged place) e = e ≡ Damaged place
IsOfSlots _ e = Unit {0}

-- a refusal of a live body, whose slot stands at this place
abbrev pub IsOfBody : MapError → ℕ → ProjectError → Type 0
IsOfBody map.OutOfMemory place e = e ≡ OutOfMemory
IsOfBody _ place e = e ≡ Damaged place
