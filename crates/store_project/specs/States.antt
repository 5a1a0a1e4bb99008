-- What a contract sees of a project, and what a project that needn't be opened again promises of
-- its disk.
use Rattle.std.specs.Prelude.{◌≡◌, ℕ, Bool, false, Option}
use Rattle.store_disk.specs.Stops.{Each}
use Rattle.store_disk.specs.declared.disk.Disk.{Ghosts}
use Rattle.map_tables.specs.Projects.{MapsView, project_of}
use Rattle.store_project.specs.Stands.{Stands}

-- its disk, its map, the live generation, whether it must be opened again, how long a body may be,
-- how long each journal is, and the longest line that the live one has room for
pub record State (D : Type 0) : Type 0 where
  pub disk : D
  pub maps : MapsView
  pub generation : ℕ
  pub must_reopen : Bool
  pub cap : ℕ
  pub journal : ℕ
  pub room : Option ℕ

-- where it needn't be opened again, each image of its disk stands for its map with its generation
abbrev pub IsProjectKept : {D : Type 0} → Ghosts D → State D → Type 0
IsProjectKept facts project = project.must_reopen ≡ false
    → Each (facts.may_leave project.disk) (Stands project.cap
    (project_of project.maps) project.generation)
