-- Reading place by place, and the fault of all places.
use Rattle.std.proofs.Common.{◌≡◌, ℕ, Bool, true, false, List, [], ◌∷◌, refl, sym, ◌∙◌, ap, arith, Option, Some, None, nat_eq, cond, length, ◌<◌}
use Rattle.std.specs.Prelude.{◌||◌, ℤ, bytes_eq, codes}
use Rattle.map_commands.specs.Places.{Place, Number, NumberOrNone, fault_at, place_fault, places_fault, prior_fault}
use Rattle.map_words.specs.Words.{is_numeral}
use Rattle.map_commands.specs.Reading.{Reading, Reads, IsDone, fault_with}

first-end : (x : Option ℕ) → prior_fault x None ≡ x
first-end None = refl
first-end (Some k) = refl

first-one : (x : Option ℕ) → prior_fault x (Some 1) ≡ Some 1
first-one None = refl
first-one (Some k) = refl

if-some : (b : Bool) (i j : ℕ) → ◌≡◌ {A = Option ℕ} (cond b (Some i) (Some j)) None → ⊥
if-some true i j e = absurd cc
if-some false i j e = absurd cc

pub first-some : (x : Option ℕ) (k : ℕ) → prior_fault x (Some k) ≡ None → ⊥
first-some None k e = absurd cc
first-some (Some j) k e = if-some (nat_eq k 1) 1 j e

on-left : (t : Bool) (i k : ℕ) → prior_fault (cond t (Some 1) (Some i)) (Some k) ≡ cond (nat_eq k 1) (Some 1) (cond t (Some 1) (Some i))
on-left true i k = refl
on-left false i k = refl

on-right : (t : Bool) (i j : ℕ) → prior_fault (Some i) (cond t (Some 1) (Some j)) ≡ cond t (Some 1) (cond (nat_eq j 1) (Some 1) (Some i))
on-right true i j = refl
on-right false i j = refl

pub first-assoc : (a b c : Option ℕ) → prior_fault (prior_fault a b) c ≡ prior_fault a (prior_fault b c)
first-assoc None b c = refl
first-assoc (Some i) None c = refl
first-assoc (Some i) (Some j) None = first-end (prior_fault (Some i) (Some j))
first-assoc (Some i) (Some j) (Some k) = on-left (nat_eq j 1) i k ∙ sym (on-right (nat_eq k 1) i j)

-- the word has a fault
pub reads-fault : (old new : Reading) (p : Place) (written w : List ℕ) (code : ℕ) → old.words ≡ w ∷ new.words
    → new.fault ≡ prior_fault old.fault (Some code) → place_fault p w ≡ Some code → Reads old new p written
reads-fault old new p written w code e f at =
    record {
      fault = λ ps.
          ap (λ ws. prior_fault old.fault (places_fault (p ∷ ps) ws)) e
          ∙ ap (λ x. prior_fault old.fault (prior_fault x (places_fault ps new.words))) at
          ∙ sym (first-assoc old.fault (Some code) (places_fault ps new.words))
          ∙ ap (λ x. prior_fault x (places_fault ps new.words)) (sym f);
      text = λ h. absurd (first-some old.fault code (sym f ∙ h));
    }

-- the word has no fault
pub reads-fit : (old new : Reading) (p : Place) (w : List ℕ) → old.words ≡ w ∷ new.words → new.fault ≡ old.fault → place_fault p w ≡ None → Reads old new p w
reads-fit old new p w e f at =
    record {
      fault = λ ps.
          ap (λ ws. prior_fault old.fault (places_fault (p ∷ ps) ws)) e
          ∙ ap (λ x. prior_fault old.fault (prior_fault x (places_fault ps new.words))) at
          ∙ ap (λ x. prior_fault x (places_fault ps new.words)) (sym f);
      text = λ h. (sym f ∙ h, e);
    }

-- one place more in front of those that were read
pub took : (old new : Reading) (p : Place) (written : List ℕ) (rest : List (List ℕ)) → Reads old new p written
    → (new.fault ≡ None) × (new.words ≡ rest) → (old.fault ≡ None) × (old.words ≡ written ∷ rest)
took old new p written rest r h = ((r.text h.0).0, (r.text h.0).1 ∙ ap (λ ws. written ∷ ws) h.1)

pub done : (r : Reading) → IsDone r → fault_with r [] ≡ None
done r h = ap (λ x. prior_fault x (places_fault [] r.words)) h.0 ∙ ap (λ ws. prior_fault None (places_fault [] ws)) h.1

-- words are left
pub left-over : (fault : Option ℕ) (ws : List (List ℕ)) → 0 < length ws → prior_fault fault (places_fault [] ws) ≡ Some 1
left-over fault [] h = absurd (omega arith)
left-over fault (w ∷ ws) h = first-one fault

either : (n d : Bool) (f : Option ℕ) → d ≡ false → ◌≡◌ {A = Option ℕ} (cond (n || d) (cond n f None) (Some 1)) (cond n f (Some 1))
either true d f e = refl
either false true f e = absurd cc
either false false f e = refl

-- a word other than `-` is a number
pub number-alone : (w : List ℕ) (low high : ℤ) → bytes_eq w (codes "-") ≡ false → place_fault (NumberOrNone low high) w ≡ place_fault (Number low high) w
number-alone w low high e = either (is_numeral w) (bytes_eq w (codes "-")) (fault_at (Number low high) w) e

-- nothing has been read, and there is no fault yet
pub fresh : (r : Reading) (ps : List Place) → r.fault ≡ None → fault_with r ps ≡ places_fault ps r.words
fresh r ps e = ap (λ x. prior_fault x (places_fault ps r.words)) e
