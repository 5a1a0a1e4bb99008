-- Sessions, one behind the other, each after a stop of the one before.
use Rattle.std.specs.Prelude.{◌≡◌, ℕ, false, List, [], ◌∷◌, ◌++◌}
use Rattle.store_disk.specs.Moments.{LeavesOnly}
use Rattle.store_disk.specs.Stops.{Each}
use Rattle.store_disk.specs.declared.disk.Disk.{Ghosts}
use Rattle.map_tables.specs.Projects.{ProjectMaps, empty_project, project_of}
use Rattle.map_commands.specs.ProjectLines.{Leads}
use Rattle.store_project.specs.Stands.{StandsFor}
use Rattle.store_project.specs.States.{State, IsProjectKept}
use Rattle.store_project.specs.Opening.{IsRefusedRead, StandsOnlyFor}
use Rattle.store_project.specs.Calls.{ProjectCall, acknowledged, accepted, AllMade}
use Rattle.store_project.specs.declared.error.ProjectError.{ProjectError}

-- A session: its calls up to some moment, and those that went on from it. A stop within a call is
-- one of a session whose last part has this call alone.
pub record Session : Type 0 where
  pub front : List ProjectCall
  pub back : List ProjectCall

-- The commands that the session's first calls accepted lead from the one map to the other, and begin
-- with the commands that were acknowledged up to the moment. So all lines of a group are kept, or
-- none.
pub record KeepsAcknowledged (cap : ℕ) (base : ProjectMaps) (s : Session) (map : ProjectMaps) :
    Type 0 where
  pub calls : List ProjectCall
  pub rest : List ProjectCall
  pub prefix : s.front ++ s.back ≡ calls ++ rest
  pub holds : (more : List (List ℕ)) × (accepted calls ≡ acknowledged s.front ++ more)
  pub leads : Leads cap base (accepted calls) map

-- the same of sessions in turn, each from the map that the one before led to
abbrev pub KeepEach : ℕ → ProjectMaps → List Session → ProjectMaps → Type 0
KeepEach cap base [] map = map ≡ base
KeepEach cap base (s ∷ sessions) map = (mid : ProjectMaps) × KeepsAcknowledged cap base s mid
    × KeepEach cap mid sessions map

-- the file stands for a map to which the sessions lead from the empty one
abbrev pub HoldsEach : ℕ → List Session → List ℕ → Type 0
HoldsEach cap sessions file = (map : ProjectMaps) × KeepEach cap empty_project sessions map
    × StandsFor cap map file

-- what `create` promises of a geometry in which a body may have so many bytes
pub record Creates {D : Type 0} (facts : Ghosts D) (cap : ℕ) (first : State D) : Type 0 where
  pub cap_is : first.cap ≡ cap
  pub empty : (project_of first.maps) ≡ empty_project
  pub generation : first.generation ≡ 1
  pub reopen : first.must_reopen ≡ false
  pub kept : IsProjectKept facts first

-- what `open` promises, of a disk that tells its bytes
pub record Opens {D : Type 0} (facts : Ghosts D) (before : D) (first : State D) : Type 0 where
  pub reopen : first.must_reopen ≡ false
  pub opened : Each (facts.reads first.disk)
      (StandsOnlyFor first.cap (project_of first.maps) first.generation)
  pub told : (file : List ℕ) × facts.reads first.disk file
  pub kept : IsProjectKept facts first
  pub any_moment : LeavesOnly facts before first.disk (facts.may_leave before)

-- what `open` promises where it is refused, of a disk that tells its bytes
pub record RefusesOpen {D : Type 0} (facts : Ghosts D)
    (before after : D) (error : ProjectError) : Type 0 where
  pub refused : IsRefusedRead (facts.reads after) error
  pub told : (file : List ℕ) × facts.reads after file
  pub any_moment : LeavesOnly facts before after (facts.may_leave before)

-- a session that began so: its state at the moment, and after its last call
pub record Passes {D : Type 0} (facts : Ghosts D)
    (begins : State D → Type 0) (s : Session) (mid last : State D) : Type 0 where
  pub first : State D
  pub begun : begins first
  pub front : AllMade facts first s.front mid
  pub back : AllMade facts mid s.back last

-- Sessions in turn: the next one opens a disk that a stop from that moment on left, or the disk as
-- it is.
abbrev pub PassInTurn : {D : Type 0} → Ghosts D → (State D → Type 0) → List Session → Session
    → State D → State D → Type 0
PassInTurn facts begins [] s mid last = Passes facts begins s mid last
PassInTurn {D = D} facts begins (q ∷ qs) s mid last =
    (m : State D) × (l : State D) × (next : D) × Passes facts begins q m l
    × Each (facts.may_leave next) (facts.left_since l.disk (facts.moment m.disk))
    × PassInTurn facts (Opens facts next) qs s mid last

-- A disk that is left by these sessions: each of its images is one that a stop from the moment in
-- the last one on left.
pub record IsLeftBy {D : Type 0} (facts : Ghosts D)
    (cap : ℕ) (sessions : List Session) (disk : D) : Type 0 where
  pub before : List Session
  pub session : Session
  pub mid : State D
  pub last : State D
  pub all : sessions ≡ before ++ session ∷ []
  pub passed : PassInTurn facts (Creates facts cap) before session mid last
  pub images : Each (facts.may_leave disk) (facts.left_since last.disk (facts.moment mid.disk))
