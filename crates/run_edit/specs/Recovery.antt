-- The PWAD that is built from a disk that sessions left.
use Rattle.std.specs.Prelude.{◌≡◌, ◌⊎◌, ℕ, List}
use Rattle.store_disk.specs.Moments.{LeavesOnly}
use Rattle.store_disk.specs.Stops.{Each}
use Rattle.store_disk.specs.declared.disk.Disk.{Ghosts}
use Rattle.map_tables.specs.Projects.{ProjectMaps, empty_project}
use Rattle.store_project.specs.Sessions.{KeepEach, Session}
use Rattle.store_project.specs.Stands.{StandsFor}
use Rattle.store_project.specs.declared.error.ProjectError.TheVariants.{Device, OutOfMemory}
use Rattle.wad_build.specs.Projects.{IsRefusalOfAll, IsSoundBuildOfAll}
use Rattle.run_edit.specs.declared.error.RecoveryError.{RecoveryError}
use Rattle.run_edit.specs.declared.error.RecoveryError.TheVariants.{Build, Open}

-- the disk was only read: reads return what they did before, and a stop at any moment leaves what
-- one left before
pub record IsOnlyRead {D : Type 0} (facts : Ghosts D) (before after : D) : Type 0 where
  pub no_other : Each (facts.reads after) (facts.reads before)
  pub still : Each (facts.reads before) (facts.reads after)
  pub any_moment : LeavesOnly facts before after (facts.may_leave before)

-- the bytes are a sound build of all maps that the sessions keep; the file stands for these maps
abbrev pub BuildsKept : ℕ → List Session → List ℕ → List ℕ → Type 0
BuildsKept cap sessions file wad =
    (maps : ProjectMaps) × KeepEach cap empty_project sessions maps × StandsFor cap maps file
    × IsSoundBuildOfAll maps.maps wad

-- Why there are no such bytes: the builder refused the maps that the sessions keep, and the file
-- stands for these maps; or the project wasn't opened, for a fault of the device or lack of memory.
abbrev pub RefusesKept : ℕ → List Session → List ℕ → RecoveryError → Type 0
RefusesKept cap sessions file (Build e) =
    (maps : ProjectMaps) × KeepEach cap empty_project sessions maps × StandsFor cap maps file
    × IsRefusalOfAll maps.maps e
RefusesKept cap sessions file (Open e) = (e ≡ Device) ⊎ (e ≡ OutOfMemory)
