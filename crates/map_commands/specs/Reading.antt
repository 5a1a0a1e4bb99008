-- A line that is read place by place.
use Rattle.std.specs.Prelude.{◌≡◌, ℕ, List, [], ◌∷◌, Option, None}
use Rattle.map_commands.specs.Places.{Place, prior_fault, places_fault}

-- the words still to be read, and the fault so far
pub record Reading : Type 0 where
  pub words : List (List ℕ)
  pub fault : Option ℕ

-- what is written was read at the place, and a fault of it noted
pub record Reads (old new : Reading) (place : Place) (written : List ℕ) : Type 0 where
  pub fault : (ps : List Place) → prior_fault old.fault (places_fault (place ∷ ps) old.words)
      ≡ prior_fault new.fault (places_fault ps new.words)
  pub text : new.fault ≡ None → (old.fault ≡ None) × (old.words ≡ written ∷ new.words)

-- the line is at its end, with no fault
abbrev pub IsDone : Reading → Type 0
IsDone r = (r.fault ≡ None) × (r.words ≡ [])

-- the fault of a line of which the places are still to be read
abbrev pub fault_with : Reading → List Place → Option ℕ
fault_with r ps = prior_fault r.fault (places_fault ps r.words)
