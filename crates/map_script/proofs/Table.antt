-- The table of the names as a list of names and what they stand for.
use Rattle.std.proofs.Common.{◌≡◌, ℕ, Bool, true, false, cond, List, [], ◌∷◌, map, refl, ap, Option, Some}
use Rattle.std.specs.Prelude.{bytes_eq, Vec}
use Rattle.std.specs.Map.{lookup}
use Rattle.std.specs.Global.{Global}
use Rattle.indexmap.specs.IndexMap.{insert_entry}
use Rattle.map_script.specs.Frames.{known_entry}
use Rattle.map_script.specs.Meant.{Meant, meant, meant_by, meant_in, with_meaning}
use Rattle.map_script.specs.declared.meaning.Meaning.{Meaning}

found-by : (t : Bool) (m : Meaning) (found : Option Meaning) (other : Option Meant) → meant_in found ≡ other
    → meant_in (cond t (Some m) found) ≡ cond t (Some (meant m)) other
found-by true m found other e = refl
found-by false m found other e = e

-- what the table has for a name is what the list has for it
pub found_in : (es : List (Vec ℕ Global × Meaning)) (name : List ℕ)
    → meant_in (lookup (λ (k : Vec ℕ Global). bytes_eq name k.items) es) ≡ meant_by (map known_entry es) name
found_in [] name = refl
found_in (e ∷ es) name =
    found-by (bytes_eq name e.0.items) e.1 (lookup (λ (k : Vec ℕ Global). bytes_eq name k.items) es) (meant_by (map known_entry es) name)
    (found_in es name)

put-by : (t : Bool) (e : Vec ℕ Global × Meaning) (m : Meaning) (es more : List (Vec ℕ Global × Meaning)) (others : List (List ℕ × Meant))
    → map known_entry more ≡ others
    → map known_entry (cond t ((e.0, m) ∷ es) (e ∷ more)) ≡ cond t ((e.0.items, meant m) ∷ map known_entry es) (known_entry e ∷ others)
put-by true e m es more others h = refl
put-by false e m es more others h = ap (λ ns. known_entry e ∷ ns) h

-- a name that is put into the table is put into the list
pub put_in : (es : List (Vec ℕ Global × Meaning)) (name : Vec ℕ Global) (m : Meaning)
    → map known_entry (insert_entry (λ (k l : Vec ℕ Global). bytes_eq k.items l.items) es name m) ≡ with_meaning (map known_entry es) name.items (meant m)
put_in [] name m = refl
put_in (e ∷ es) name m =
    put-by (bytes_eq name.items e.0.items) e m es (insert_entry (λ (k l : Vec ℕ Global). bytes_eq k.items l.items) es name m)
    (with_meaning (map known_entry es) name.items (meant m)) (put_in es name m)
