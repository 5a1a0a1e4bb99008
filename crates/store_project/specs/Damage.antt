-- Why the bytes of a file are no project's, in the order in which `open` looks.
use Rattle.std.specs.Prelude.{◌≡◌, ◌<◌, ◌≤◌, ◌⊎◌, ◌+◌, ◌^◌, ℕ, List, ◌∷◌, ◌++◌, length}
use Rattle.store_disk.specs.Files.{HasAt}
use Rattle.store_journal.specs.Records.{IsJournal, records_bytes}
use Rattle.store_journal.specs.Damage as journal
use Rattle.store_slots.specs.Bodies.{IsLive}
use Rattle.store_slots.specs.Damage as slots
use Rattle.map_tables.specs.Projects.{ProjectMaps, WellFormedProject}
use Rattle.map_tables.specs.ProjectBody.{HasBody, NoProjectHas}
use Rattle.store_project.specs.Places.{IsAllowed, header_bytes, which_parts, cap_of}
use Rattle.store_project.specs.Stands.{HasGeometry}
use Rattle.map_commands.specs.ProjectLines.{Leads, LeadsTo}
use Rattle.store_project.specs.declared.geometry.Geometry.{Geometry}
use Rattle.store_project.specs.declared.places.Places.{Places}
use Rattle.store_project.specs.declared.places.Parts.{Parts}

-- no project file: no lengths make its first bytes a header
abbrev pub IsForeign : List ℕ → Type 0
IsForeign file = (slot journal : ℕ) → slot < 2 ^ 32 → journal < 2 ^ 32
    → ¬ HasAt 0 (header_bytes slot journal) file

-- its header has lengths outside the limits
abbrev pub HasBadGeometry : List ℕ → Type 0
HasBadGeometry file = (slot : ℕ) × (journal : ℕ) × (slot < 2 ^ 32) × (journal < 2 ^ 32)
    × HasAt 0 (header_bytes slot journal) file × (¬ IsAllowed slot journal)

-- no slot is open
abbrev pub IsBlank : List ℕ → Type 0
IsBlank file = (g : Geometry) × (p : Places) × HasGeometry g p file × slots.AreBlank p.a p.b file

-- a gate's place at which the live journal is damaged, or at which the other journal's first gate
-- isn't there
abbrev pub IsGateFault : Parts → ℕ → List ℕ → Type 0
IsGateFault parts place file = journal.IsJournalDamagedAt parts.journal place file
    ⊎ ((place ≡ parts.other_journal.base) × (length file ≤ parts.other_journal.base))

-- the least such place
pub record IsLeastGateFault (parts : Parts) (place : ℕ) (file : List ℕ) : Type 0 where
  pub fault : IsGateFault parts place file
  pub least : (other : ℕ) → IsGateFault parts other file → place ≤ other

-- the gate of the first payload that is no accepted command stands here
pub record IsBadLine (cap : ℕ) (parts : Parts) (base : ProjectMaps) (place : ℕ) (file : List ℕ) :
    Type 0 where
  pub front : List (List ℕ)
  pub line : List ℕ
  pub back : List (List ℕ)
  pub journal : IsJournal parts.journal (front ++ line ∷ back) file
  pub other : parts.other_journal.base < length file
  pub map : ProjectMaps
  pub leads : Leads cap base front map
  pub refused : (new : ProjectMaps) → ¬ LeadsTo cap map line new
  pub there : place ≡ parts.journal.base + length (records_bytes front)

-- the live body is no map's; or it is, and a gate of its journal or a payload is at fault
abbrev pub IsBadChain : ℕ → Parts → List ℕ → ℕ → List ℕ → Type 0
IsBadChain cap parts bytes place file = (NoProjectHas bytes × (place ≡ parts.live.base))
    ⊎ ((base : ProjectMaps) × WellFormedProject base × HasBody base bytes
    × (IsLeastGateFault parts place file ⊎ IsBadLine cap parts base place file))

-- a slot is damaged; or one is live, and what hangs on it is at fault
abbrev pub IsBadPart : Geometry → Places → ℕ → List ℕ → Type 0
IsBadPart g p place file = slots.AreSlotsDamagedAt p.a p.b place file
    ⊎ ((slot : ℕ) × (generation : ℕ) × (bytes : List ℕ) × (slot ≤ 1)
    × IsLive (which_parts p slot).live (which_parts p slot).other generation bytes file
    × IsBadChain (cap_of g) (which_parts p slot) bytes place file)

-- the bytes are a project's by their header, and damaged at this place
abbrev pub IsProjectDamagedAt : ℕ → List ℕ → Type 0
IsProjectDamagedAt place file = (g : Geometry) × (p : Places) × HasGeometry g p file
    × IsBadPart g p place file
