-- The names that open blocks hold, and where the newest of each stands.
use Rattle.std.specs.Prelude.{◌≡◌, ℕ, Bool, suc, ◌++◌, if◌then◌else◌, List, [], ◌∷◌, Option, Some, None, Vec, MatchOption, bytes_eq, is_some, true}
use Rattle.std.specs.Global.{Global}
use Rattle.std.specs.Map.{lookup}
use Rattle.map_script.specs.Meant.{Meant, meant, meant_by, with_meaning}
use Rattle.map_script.specs.declared.held.Entry.{Entry}
use Rattle.map_script.specs.declared.meaning.Meaning.{Meaning}

-- a name that a block holds
abbrev pub held_entry : Entry → List ℕ × Meant
held_entry held = (held.name.items, meant held.meaning)

-- the names that blocks hold in front of others, the newest first
abbrev pub in_front_of : List Entry → List (List ℕ × Meant) → List (List ℕ × Meant)
in_front_of [] others = others
in_front_of (h ∷ hs) others = in_front_of hs (held_entry h ∷ others)

-- ---- Where a name is held

-- one index more, or else the index 0 if the name is here
abbrev pub or_here : Bool → Option ℕ → Option ℕ
or_here here (Some i) = Some (suc i)
or_here here None = if here then Some 0 else None

-- the index of the newest name that is this one
abbrev pub newest_of : List Entry → List ℕ → Option ℕ
newest_of [] name = None
newest_of (h ∷ hs) name = or_here (bytes_eq name h.name.items) (newest_of hs name)

-- each name that is held behind others hides the newest of them that is the same
abbrev pub HideOlder : List Entry → List Entry → Type 0
HideOlder others [] = Unit {0}
HideOlder others (h ∷ hs) =
    (h.hidden ≡ newest_of others h.name.items) × HideOlder (others ++ h ∷ []) hs

-- the place that a table notes for a name, if it has the name and notes a place
abbrev pub place_noted : Option (Option ℕ) → Option ℕ
place_noted (Some place) = place
place_noted None = None

-- the place that a table has for a name, if it has one
abbrev pub held_place : List (Vec ℕ Global × Option ℕ) → List ℕ → Option ℕ
held_place table name = place_noted (lookup (λ (k : Vec ℕ Global). bytes_eq name k.items) table)

-- a table has for each name where the newest stands, and each name has the place of the one it hides
pub record HasNewest (held : List Entry) (table : List (Vec ℕ Global × Option ℕ)) : Type 0 where
  pub hide : HideOlder [] held
  pub newest : (name : List ℕ) → held_place table name ≡ newest_of held name

-- ---- How a call ended

-- a held name was given another meaning; or the meaning came back, since it isn't held
abbrev pub Replaces : List (List ℕ × Meant) → List ℕ → Meaning → Option Meaning
    → List (List ℕ × Meant) → Type 0
Replaces old name meaning result new =
    MatchOption result
    ((new ≡ with_meaning old name (meant meaning)) × (is_some (meant_by old name) ≡ true))
    (λ back. (back ≡ meaning) × (new ≡ old) × (meant_by old name ≡ None))
