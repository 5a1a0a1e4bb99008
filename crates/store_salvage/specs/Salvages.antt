-- What is salvaged from a file.
use Rattle.std.specs.Prelude.{◌≡◌, ◌≤◌, ℕ, List, ◌++◌, length, None, Result, Ok, Err}
use Rattle.store_slots.specs.Bodies.{IsLive}
use Rattle.map_tables.specs.Projects.{ProjectMaps, WellFormedProject, project_of}
use Rattle.map_tables.specs.ProjectBody.{HasBody}
use Rattle.map_commands.specs.ProjectLines.{Leads}
use Rattle.store_project.specs.Places.{cap_of, which_parts}
use Rattle.store_project.specs.Stands.{HasGeometry, StandsFor}
use Rattle.store_project.specs.declared.geometry.Geometry.{Geometry}
use Rattle.store_project.specs.declared.places.Places.{Places}
use Rattle.store_salvage.specs.Records.{AreRecordsOf, RefusesFirst}
use Rattle.store_salvage.specs.declared.error.SalvageError.{SalvageError}
use Rattle.store_salvage.specs.declared.error.SalvageError.TheVariants.{OutOfMemory}
use Rattle.store_salvage.specs.declared.salvaging.Salvaged.{Salvaged}

-- The maps are those of the live body after the longest prefix of its journal's whole records that they accept in
-- turn: `records` of them are kept, and `behind` more whole ones follow.
pub record IsSalvaged (maps : ProjectMaps) (records behind : ℕ) (file : List ℕ) : Type 0 where
  pub geometry : Geometry
  pub places : Places
  pub has : HasGeometry geometry places file
  pub slot : ℕ
  pub which : slot ≤ 1
  pub generation : ℕ
  pub body : List ℕ
  pub live : IsLive (which_parts places slot).live (which_parts places slot).other generation body
      file
  pub base : ProjectMaps
  pub well_formed : WellFormedProject base
  pub has_body : HasBody base body
  pub kept : List (List ℕ)
  pub lost : List (List ℕ)
  pub all : AreRecordsOf (which_parts places slot).journal (kept ++ lost) file
  pub leads : Leads (cap_of geometry) base kept maps
  pub refused : RefusesFirst (cap_of geometry) maps lost
  pub kept_count : records ≡ length kept
  pub lost_count : behind ≡ length lost

-- the file stands for these maps, with some greatest length of a body
abbrev pub StandsForMaps : ProjectMaps → List ℕ → Type 0
StandsForMaps maps file = (cap : ℕ) × StandsFor cap maps file

-- the whole project was salvaged, or memory ran out
abbrev pub GivesAll : Result Salvaged SalvageError → ProjectMaps → Type 0
GivesAll (Ok s) map = (project_of s.maps ≡ map) × (s.damage ≡ None) × (s.behind ≡ 0)
GivesAll (Err e) map = e ≡ OutOfMemory
