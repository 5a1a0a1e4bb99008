-- The names that blocks hold.
use Rattle.std.proofs.Common.{◌≡◌, ℕ, ◌+◌, ◌<◌, Bool, true, false, cond, List, [], ◌∷◌, ◌++◌, map, length, get_or, set, refl, ap, ap₂, sym, subst, ◌∙◌, arith, Option, Some, None}
use Rattle.std.specs.Prelude.{bytes_eq, suc}
use Rattle.map_script.specs.Held.{held_entry, in_front_of, newest_of, or_here}
use Rattle.map_script.specs.Meant.{Meant, meant, meant_by, with_meaning}
use Rattle.map_script.specs.declared.held.Entry.{Entry}
use Rattle.map_script.specs.declared.meaning.Meaning.{Meaning}

-- ---- Which of them is newest

here_last : (here last : Bool) (n : ℕ) (found : Option ℕ) → or_here here (cond last (Some n) found) ≡ cond last (Some (suc n)) (or_here here found)
here_last here true n found = refl
here_last here false n found = refl

-- one name more
pub newest_behind : (hs : List Entry) (h : Entry) (name : List ℕ) → newest_of (hs ++ h ∷ []) name ≡ cond (bytes_eq name h.name.items) (Some (length hs)) (newest_of hs name)
newest_behind [] h name = refl
newest_behind (g ∷ hs) h name =
    ap (or_here (bytes_eq name g.name.items)) (newest_behind hs h name)
    ∙ here_last (bytes_eq name g.name.items) (bytes_eq name h.name.items) (length hs) (newest_of hs name)

-- the index lies within
pub newest_within : (hs : List Entry) (name : List ℕ) (i : ℕ) → newest_of hs name ≡ Some i → i < length hs
newest_within [] name i e = cc
newest_within (h ∷ hs) name i e = within_by (bytes_eq name h.name.items) (newest_of hs name) i (length hs) (λ k is. newest_within hs name k is) e
  where
    within_by : (here : Bool) (found : Option ℕ) (i n : ℕ) → ((k : ℕ) → found ≡ Some k → k < n) → or_here here found ≡ Some i → i < suc n
    within_by here (Some k) i n rest at =
        let below : k < n = rest k refl in
        let same : suc k ≡ i = cc in
        omega (arith, below, same)
    within_by true None i n rest at =
        let same : 0 ≡ i = cc in
        omega (arith, same)
    within_by false None i n rest at = cc

-- ---- What it stands for

nowhere : (here : Bool) (found : Option ℕ) → or_here here found ≡ None → (here ≡ false) × (found ≡ None)
nowhere true (Some i) e = cc
nowhere true None e = cc
nowhere false (Some i) e = cc
nowhere false None e = (refl, refl)

first_here : (here : Bool) (i : ℕ) → or_here here None ≡ Some i → (here ≡ true) × (i ≡ 0)
first_here true i e = (refl, cc)
first_here false i e = cc

-- a name that blocks don't hold
pub found_none : (hs : List Entry) (name : List ℕ) (others : List (List ℕ × Meant)) → newest_of hs name ≡ None
    → meant_by (in_front_of hs others) name ≡ meant_by others name
found_none [] name others e = refl
found_none (h ∷ hs) name others e =
    let (other, none) = nowhere (bytes_eq name h.name.items) (newest_of hs name) e in
    found_none hs name (held_entry h ∷ others) none ∙ ap (λ t. cond t (Some (meant h.meaning)) (meant_by others name)) other

found_by : (hs : List Entry) (h x : Entry) (name : List ℕ) (others : List (List ℕ × Meant)) (found : Option ℕ) (i : ℕ) → newest_of hs name ≡ found
    → or_here (bytes_eq name h.name.items) found ≡ Some i → x ≡ get_or (h ∷ hs) i x
    → ((k : ℕ) → newest_of hs name ≡ Some k → x ≡ get_or hs k x → meant_by (in_front_of hs (held_entry h ∷ others)) name ≡ Some (meant x.meaning))
    → meant_by (in_front_of hs (held_entry h ∷ others)) name ≡ Some (meant x.meaning)
found_by hs h x name others (Some k) i is e at more =
    let later : suc k ≡ i = cc in
    more k is (subst (λ n. x ≡ get_or (h ∷ hs) n x) (sym later) at)
found_by hs h x name others None i is e at more =
    let (here, first) = first_here (bytes_eq name h.name.items) i e in
    found_none hs name (held_entry h ∷ others) is ∙ ap (λ t. cond t (Some (meant h.meaning)) (meant_by others name)) here
    ∙ ap (λ (g : Entry). Some (meant g.meaning)) (sym (subst (λ n. x ≡ get_or (h ∷ hs) n x) first at))

-- a name that blocks hold
pub found_held : (hs : List Entry) (x : Entry) (name : List ℕ) (others : List (List ℕ × Meant)) (i : ℕ) → newest_of hs name ≡ Some i → x ≡ get_or hs i x
    → meant_by (in_front_of hs others) name ≡ Some (meant x.meaning)
found_held [] x name others i e at = cc
found_held (h ∷ hs) x name others i e at =
    found_by hs h x name others (newest_of hs name) i refl e at (λ k is here. found_held hs x name (held_entry h ∷ others) k is here)

-- ---- What it is made to stand for

-- a name with another meaning
abbrev pub with_sense : Entry → Meaning → Entry
with_sense x m = record { name = x.name; meaning = m; hidden = x.hidden }

-- a name that blocks don't hold
pub put_none : (hs : List Entry) (name : List ℕ) (now : Meant) (others : List (List ℕ × Meant)) → newest_of hs name ≡ None
    → with_meaning (in_front_of hs others) name now ≡ in_front_of hs (with_meaning others name now)
put_none [] name now others e = refl
put_none (h ∷ hs) name now others e =
    let (other, none) = nowhere (bytes_eq name h.name.items) (newest_of hs name) e in
    put_none hs name now (held_entry h ∷ others) none
    ∙ ap (λ t. in_front_of hs (cond t ((h.name.items, now) ∷ others) (held_entry h ∷ with_meaning others name now))) other

put_by : (hs : List Entry) (h x : Entry) (m : Meaning) (name : List ℕ) (others : List (List ℕ × Meant)) (found : Option ℕ) (i : ℕ) → newest_of hs name ≡ found
    → or_here (bytes_eq name h.name.items) found ≡ Some i → x ≡ get_or (h ∷ hs) i x
    → ((k : ℕ) → newest_of hs name ≡ Some k → x ≡ get_or hs k x
    → with_meaning (in_front_of hs (held_entry h ∷ others)) name (meant m) ≡ in_front_of (set hs k (with_sense x m)) (held_entry h ∷ others))
    → with_meaning (in_front_of hs (held_entry h ∷ others)) name (meant m) ≡ in_front_of (set (h ∷ hs) i (with_sense x m)) others
put_by hs h x m name others (Some k) i is e at more =
    let later : suc k ≡ i = cc in
    subst (λ n. with_meaning (in_front_of hs (held_entry h ∷ others)) name (meant m) ≡ in_front_of (set (h ∷ hs) n (with_sense x m)) others) later
    (more k is (subst (λ n. x ≡ get_or (h ∷ hs) n x) (sym later) at))
put_by hs h x m name others None i is e at more =
    let (here, first) = first_here (bytes_eq name h.name.items) i e in
    put_none hs name (meant m) (held_entry h ∷ others) is
    ∙ ap (λ t. in_front_of hs (cond t ((h.name.items, meant m) ∷ others) (held_entry h ∷ with_meaning others name (meant m)))) here
    ∙ ap (λ (g : Entry). in_front_of hs ((g.name.items, meant m) ∷ others)) (sym (subst (λ n. x ≡ get_or (h ∷ hs) n x) first at))
    ∙ ap (λ n. in_front_of (set (h ∷ hs) n (with_sense x m)) others) (sym first)

-- a name that blocks hold
pub put_held : (hs : List Entry) (x : Entry) (m : Meaning) (name : List ℕ) (others : List (List ℕ × Meant)) (i : ℕ) → newest_of hs name ≡ Some i → x ≡ get_or hs i x
    → with_meaning (in_front_of hs others) name (meant m) ≡ in_front_of (set hs i (with_sense x m)) others
put_held [] x m name others i e at = cc
put_held (h ∷ hs) x m name others i e at =
    put_by hs h x m name others (newest_of hs name) i refl e at (λ k is here. put_held hs x m name (held_entry h ∷ others) k is here)

-- ---- How many of them there are

-- one more
pub front_more : (hs : List Entry) (h : Entry) (others : List (List ℕ × Meant)) → in_front_of (hs ++ h ∷ []) others ≡ held_entry h ∷ in_front_of hs others
front_more [] h others = refl
front_more (g ∷ hs) h others = front_more hs h (held_entry g ∷ others)

-- as many names as are held
pub front_long : (hs : List Entry) (others : List (List ℕ × Meant)) → length (in_front_of hs others) ≡ length others + length hs
front_long [] others = omega arith
front_long (h ∷ hs) others =
    let one = front_long hs (held_entry h ∷ others) in
    omega (arith, one)

-- ---- Which one it hides

-- the newest of a name by names alone
pub newest_same : (hs gs : List Entry) (name : List ℕ) → map (λ (h : Entry). h.name.items) hs ≡ map (λ (h : Entry). h.name.items) gs → newest_of hs name ≡ newest_of gs name
newest_same [] [] name e = refl
newest_same [] (g ∷ gs) name e = cc
newest_same (h ∷ hs) [] name e = cc
newest_same (h ∷ hs) (g ∷ gs) name e =
    let here : h.name.items ≡ g.name.items = cc in
    let rest : map (λ (h : Entry). h.name.items) hs ≡ map (λ (h : Entry). h.name.items) gs = cc in
    ap₂ (λ (n : List ℕ) (o : Option ℕ). or_here (bytes_eq name n) o) here (newest_same hs gs name rest)
