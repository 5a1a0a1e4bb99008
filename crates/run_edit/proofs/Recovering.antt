-- What a disk holds that sessions left, and why it isn't built.
use Rattle.std.proofs.Common.{◌≡◌, ℕ, List, Result, Ok, Err, subst, sym}
use Rattle.std.specs.Prelude.{MatchResult}
use Rattle.map_tables.specs.Projects.{ProjectMaps, empty_project}
use Rattle.store_project.specs.Opening.{StandsOnlyFor}
use Rattle.store_project.specs.Stands.{Stands, StandsFor}
use Rattle.store_project.specs.Sessions.{KeepEach, Session}
use Rattle.store_project.specs.declared.error.ProjectError.TheVariants.{Device}
use Rattle.map_tables.specs.Tables.{Tables}
use Rattle.wad_build.specs.Projects.{IsRefusalOfAll}
use Rattle.wad_build.specs.declared.error.BuildError.{BuildError}
use Rattle.run_edit.specs.Recovery.{RefusesKept}
use Rattle.run_edit.specs.declared.error.RecoveryError.{RecoveryError}
use Rattle.run_edit.specs.declared.error.RecoveryError.TheVariants as recovering

-- the file that is read stands for the maps
pub stands_for : (cap generation wanted : ℕ) (maps : ProjectMaps) (file : List ℕ) → StandsOnlyFor cap maps generation file → cap ≡ wanted
    → StandsFor wanted maps file
stands_for cap generation wanted maps file stands same = (generation, subst (λ (c : ℕ). Stands c maps generation file) same stands.stands)

-- the builder refused the maps that the sessions keep
pub refused_kept : (cap : ℕ) (sessions : List Session) (file : List ℕ) (maps : ProjectMaps) (e : RecoveryError)
    → KeepEach cap empty_project sessions maps → StandsFor cap maps file
    → ((cause : BuildError) × (e ≡ recovering.Build cause) × IsRefusalOfAll maps.maps cause) → RefusesKept cap sessions file e
refused_kept cap sessions file maps e keep stand (cause, is, refused) =
    subst (λ (why : RecoveryError). RefusesKept cap sessions file why) (sym is) (maps, keep, stand, refused)

-- what the builder refused is no fault of the device
pub no_fault : {A : Type 0} (P : A → Type 0) (ms : List Tables) (r : Result A RecoveryError)
    → MatchResult r P (λ e. (cause : BuildError) × (e ≡ recovering.Build cause) × IsRefusalOfAll ms cause)
    → r ≡ Err (recovering.Open Device) → ⊥
no_fault P ms (Ok a) told is = cc
no_fault P ms (Err e) (cause, build, why) is = cc
