-- A drawing onto a new project that is stopped at any moment, and what is then opened again.
use Rattle.std.specs.Prelude.{◌≡◌, ℕ, List, [], ◌∷◌, ◌++◌}
use Rattle.store_disk.specs.Moments.{LeavesOnly}
use Rattle.store_disk.specs.Stops.{Each}
use Rattle.store_disk.specs.declared.disk.Disk.{Ghosts}
use Rattle.map_tables.specs.Projects.{empty_project, project_of}
use Rattle.store_project.specs.Calls.{AllMade, ProjectCall}
use Rattle.store_project.specs.Sessions.{HoldsEach, KeepEach, Opens, Session}
use Rattle.store_project.specs.States.{State}

-- a session of these calls up to a moment, and those calls from it on
abbrev pub session_of : List ProjectCall → List ProjectCall → Session
session_of front back = record { front = front; back = back }

-- a disk that a stop from the moment on left, opened again, gives the map after a prefix of the
-- accepted commands that holds each one acknowledged up to the moment
abbrev pub ReopensTo : {D : Type 0} → Ghosts D → ℕ → Session → State D → State D → Type 0
ReopensTo {D = D} facts cap s mid last = (disk : D) (again : State D)
    → Each (facts.may_leave disk) (facts.left_since last.disk (facts.moment mid.disk))
    → Opens facts disk again → KeepEach cap empty_project (s ∷ []) (project_of again.maps)

-- At each moment between two of the calls, and within each: from then on every image stands for the
-- map after such a prefix, and so does what is opened again.
abbrev pub HoldsAtMoments : {D : Type 0} → Ghosts D → ℕ → State D → List ProjectCall → State D
    → Type 0
HoldsAtMoments {D = D} facts cap first calls last =
    (front back : List ProjectCall) → calls ≡ front ++ back
    → (mid : State D) × AllMade facts first front mid
    × LeavesOnly facts mid.disk last.disk (HoldsEach cap (session_of front back ∷ []))
    × ReopensTo facts cap (session_of front back) mid last
