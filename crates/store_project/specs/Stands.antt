-- What the bytes of a project file stand for: a map and a generation.
use Rattle.std.specs.Prelude.{◌≡◌, ◌<◌, ◌≤◌, ◌⊎◌, ℕ, List, length}
use Rattle.store_disk.specs.Files.{HasAt}
use Rattle.store_journal.specs.Records.{IsJournal}
use Rattle.store_slots.specs.Bodies.{IsLive}
use Rattle.map_tables.specs.Projects.{ProjectMaps, WellFormedProject}
use Rattle.map_tables.specs.ProjectBody.{HasBody}
use Rattle.map_commands.specs.ProjectLines.{Leads, LeadsTo}
use Rattle.store_project.specs.Places.{IsAllowed, AreLaidOut, header_bytes, which_parts, cap_of}
use Rattle.store_project.specs.declared.geometry.Geometry.{Geometry}
use Rattle.store_project.specs.declared.places.Places.{Places}
use Rattle.store_project.specs.declared.places.Parts.{Parts}

-- the parts stand for a map: the live body's, after the commands in its journal
pub record StandsAt (cap : ℕ) (parts : Parts) (map : ProjectMaps) (generation : ℕ) (file : List ℕ) :
    Type 0 where
  pub base : ProjectMaps
  pub bytes : List ℕ
  pub lines : List (List ℕ)
  pub well_formed : WellFormedProject base
  pub body : HasBody base bytes
  pub live : IsLive parts.live parts.other generation bytes file
  pub journal : IsJournal parts.journal lines file
  pub other : parts.other_journal.base < length file
  pub leads : Leads cap base lines map

-- the file's header tells these lengths of a slot and of a journal
abbrev pub TellsLengths : Geometry → List ℕ → Type 0
TellsLengths geometry file = HasAt 0 (header_bytes geometry.slot geometry.journal) file

-- the file begins with the header of this geometry, whose parts stand there
pub record HasGeometry (geometry : Geometry) (places : Places) (file : List ℕ) : Type 0 where
  pub allowed : IsAllowed geometry.slot geometry.journal
  pub header : TellsLengths geometry file
  pub laid_out : AreLaidOut geometry places

-- The bytes have the form of a project file whose bodies have at most so many bytes, and stand for
-- this map with this generation.
pub record Stands (cap : ℕ) (map : ProjectMaps) (generation : ℕ) (file : List ℕ) : Type 0 where
  pub geometry : Geometry
  pub places : Places
  pub has : HasGeometry geometry places file
  pub cap_is : cap_of geometry ≡ cap
  pub slot : ℕ
  pub which : slot ≤ 1
  pub at : StandsAt cap (which_parts places slot) map generation file

-- the same with some generation
abbrev pub StandsFor : ℕ → ProjectMaps → List ℕ → Type 0
StandsFor cap map file = (generation : ℕ) × Stands cap map generation file

-- the file is an outcome of a line: it stands for the map, or for the one that the line leads to
abbrev pub IsOutcome : ℕ → ProjectMaps → List ℕ → List ℕ → Type 0
IsOutcome cap map line file = StandsFor cap map file
    ⊎ ((new : ProjectMaps) × LeadsTo cap map line new × StandsFor cap new file)

-- the file stands for the one map or for the other
abbrev pub StandsForEither : ℕ → ProjectMaps → ProjectMaps → List ℕ → Type 0
StandsForEither cap one other file = StandsFor cap one file ⊎ StandsFor cap other file
