-- The bytes of a project's body: of version 2, which is written, and of version 1 for one map, which can still be
-- read.
use Rattle.std.specs.Prelude.{◌≡◌, ◌≢◌, ℕ, ◌≤◌, ◌<◌, ◌⊎◌, List, [], ◌∷◌, ◌++◌, length, flat_map, drop}
use Rattle.map_tables.specs.declared.error.MapError.{MapError}
use Rattle.map_tables.specs.Tables.{Tables}
use Rattle.map_tables.specs.Parts.{part, RefusesFor}
use Rattle.map_tables.specs.Body.{body}
use Rattle.map_tables.specs.Projects.{ProjectMaps, WellFormedProject, current_map}

-- version 2: the byte 02, the current number in one byte, and each map's part
abbrev pub project_body : ProjectMaps → List ℕ
project_body p = 2 ∷ p.current ∷ flat_map part p.maps

-- the project of one map
abbrev pub alone : Tables → ProjectMaps
alone m = record { maps = m ∷ []; current = 0 }

-- the bytes are the project's body of version 2, or, for a project of one map, its body of version 1
abbrev pub HasBody : ProjectMaps → List ℕ → Type 0
HasBody p bytes = (project_body p ≡ bytes)
    ⊎ ((p ≡ alone (current_map p)) × (body (current_map p) ≡ bytes))

-- no well-formed project has these bytes in either version
abbrev pub NoProjectHas : List ℕ → Type 0
NoProjectHas bytes = (p : ProjectMaps) → WellFormedProject p → HasBody p bytes → ⊥

-- the project is well-formed, it has these bytes, and no other well-formed project has them in
-- either version
pub record IsProjectOf (bytes : List ℕ) (p : ProjectMaps) : Type 0 where
  pub well_formed : WellFormedProject p
  pub encoded : HasBody p bytes
  pub only : (other : ProjectMaps) → WellFormedProject other → HasBody other bytes → other ≡ p

-- reading a body fails because no well-formed project has the bytes, or memory runs out
abbrev pub RefusesProject : List ℕ → MapError → Type 0
RefusesProject bytes = RefusesFor (NoProjectHas bytes)

-- ---- The parts one after another

-- the bytes are the parts of a well-formed project's maps
pub record AreMapsOf (bytes : List ℕ) (p : ProjectMaps) : Type 0 where
  pub well_formed : WellFormedProject p
  pub encoded : flat_map part p.maps ≡ bytes

-- the bytes are the parts of no well-formed project's maps
abbrev pub NoMapsHave : List ℕ → Type 0
NoMapsHave bytes = (p : ProjectMaps) → WellFormedProject p → flat_map part p.maps ≢ bytes

-- no well-formed project has these maps followed by some whose parts are the bytes
abbrev pub NoneFollow : List Tables → List ℕ → Type 0
NoneFollow maps bytes =
    (p : ProjectMaps) (m : Tables) (more : List Tables) → WellFormedProject p → p.maps ≡ maps ++ m
    ∷ more
    → part m ++ flat_map part more ≢ bytes

-- the project with one more map, which is last and current
abbrev pub with_last : ProjectMaps → Tables → ProjectMaps
with_last p m = record { maps = p.maps ++ m ∷ []; current = length p.maps }

-- one more map was read from the first n of the bytes
pub record ReadsNext (bytes : List ℕ) (n : ℕ) (old new : ProjectMaps) : Type 0 where
  pub well_formed : WellFormedProject new
  pub some : 0 < n
  pub within : n ≤ length bytes
  pub encoded : flat_map part new.maps ++ drop n bytes ≡ flat_map part old.maps ++ bytes
