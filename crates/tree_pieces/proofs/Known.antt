-- Where a place stands in a list of places, and in the index of it.
use Rattle.std.proofs.Common.{◌≡◌, refl, sym, ap, ◌∙◌, subst, ℕ, zero, suc, ◌<◌, ◌⊎◌, inl, inr, ⊎_elim, List, [], ◌∷◌, ◌++◌, length, ◌≢◌, Bool, true, false, ◌||◌, true≢false, Option, None, Some, is_some, slice_get, arith}
use Rattle.std.proofs.lemmas.Int.{ints}
use Rattle.std.proofs.lemmas.Bool.{cases_lt}
use Rattle.std.proofs.lemmas.Option.{slice_get_within}
use Rattle.std.proofs.lemmas.Map.Made.{is_some-lookup}
use Rattle.std.proofs.lemmas.Map.Entries.{place_from_lookup}
use Rattle.std.specs.Prelude.{ℤ, Result, Ok, Err, OnOk, IfOk}
use Rattle.std.specs.Map.{keys_of, lookup}
use Rattle.std.specs.List.{list_any}
use Rattle.std.proofs.lemmas.List.{length-append}
use Rattle.lump_records.specs.declared.records.Vertex.{Vertex}
use Rattle.lump_records.specs.contracts.records.VertexPartialEq.TheImpl.{eq-value}
use Rattle.tree_pieces.specs.Places.{IsKnown, IsWithPlace, IsNoted, IsIndexed, StandsFirst}

same_is : (u v : Vertex) → eq-value.it u v ≡ true → u ≡ v
same_is u v e =
    let x : u.x ≡ v.x = grind (arith, ints) in
    let y : u.y ≡ v.y = grind (arith, ints) in
    let across : ℤ → Vertex = λ a. record { x = a; y = u.y } in
    let upward : ℤ → Vertex = λ b. record { x = v.x; y = b } in
    ap across x ∙ ap upward y

same_self : (v : Vertex) → eq-value.it v v ≡ true
same_self v = grind (arith, ints)

pub unequal : (u v : Vertex) → eq-value.it u v ≡ false → u ≢ v
unequal u v f e = true≢false (sym (same_self v) ∙ sym (ap (λ (w : Vertex). eq-value.it w v) e) ∙ f)

-- ---- a list with one more behind it
pub stays : {X : Type 0} (xs ys : List X) (i : ℕ) (x : X) → slice_get xs i ≡ Some x → slice_get (xs ++ ys) i ≡ Some x
stays [] ys i x e = cc
stays (y ∷ xs) ys zero x e = e
stays (y ∷ xs) ys (suc i) x e = stays xs ys i x e

pub last : {X : Type 0} (xs : List X) (x : X) → slice_get (xs ++ x ∷ []) (length xs) ≡ Some x
last [] x = refl
last (y ∷ xs) x = last xs x

pub cases : {X : Type 0} (xs : List X) (y : X) (i : ℕ) (x : X) → slice_get (xs ++ y ∷ []) i ≡ Some x → (slice_get xs i ≡ Some x) ⊎ ((i ≡ length xs) × (y ≡ x))
cases [] y zero x e = inr (refl, cc)
cases [] y (suc i) x e = cc
cases (z ∷ xs) y zero x e = inl e
cases {X} (z ∷ xs) y (suc i) x e = ⊎_elim (λ s. inl s) (λ s. inr (ap suc s.0, s.1)) (cases xs y i x e)

-- the first of a place stays the first
pub stays_first : (vs ws : List Vertex) (n : ℕ) (v : Vertex) → slice_get vs n ≡ Some v → StandsFirst vs n → StandsFirst (vs ++ ws) n
stays_first vs ws n v at h m w a b =
    let e = stays vs ws n v at in
    let same : v ≡ w = cc in
    let w1 = slice_get_within vs n v at in
    ⊎_elim (λ below. h m w (before vs ws m w below a) (at ∙ ap Some same)) (λ above. omega arith) (cases_lt m (length vs))
  where
    before : (vs ws : List Vertex) (m : ℕ) (w : Vertex) → m < length vs → slice_get (vs ++ ws) m ≡ Some w → slice_get vs m ≡ Some w
    before [] ws m w l e = absurd (omega arith)
    before (u ∷ vs) ws zero w l e = e
    before (u ∷ vs) ws (suc m) w l e = before vs ws m w (omega arith) e

-- a place that was not known is the first of its kind
pub new_first : (vs : List Vertex) (v : Vertex) → (IsKnown vs v → ⊥) → StandsFirst (vs ++ v ∷ []) (length vs)
new_first vs v new m w a b =
    let l = last vs v in
    let same : v ≡ w = cc in
    ⊎_elim (λ s. absurd (new (m, s ∙ ap Some (sym same)))) (λ s. let e = s.0 in omega arith) (cases vs v m w a)

-- ---- the index
-- a place that no test finds isn't known
not_any : (v : Vertex) (vs : List Vertex) → list_any (eq-value.it v) vs ≡ false → IsKnown vs v → ⊥
not_any v [] e k = let s = k.1 in cc
not_any v (u ∷ vs) e k = by_place (not_any v vs) k.0 k.1
  where
    by_head : (a b : Bool) → a ≡ true → (a || b) ≡ false → ⊥
    by_head true b f g = cc
    by_head false b f g = cc

    by_tail : (a b : Bool) → (a || b) ≡ false → b ≡ false
    by_tail true b g = cc
    by_tail false b g = g

    by_place : (list_any (eq-value.it v) vs ≡ false → IsKnown vs v → ⊥) → (n : ℕ) → slice_get (u ∷ vs) n ≡ Some v → ⊥
    by_place r zero s =
        let h : u ≡ v = cc in
        by_head (eq-value.it v u) (list_any (eq-value.it v) vs) (ap (eq-value.it v) h ∙ same_self v) e
    by_place r (suc n) s = r (by_tail (eq-value.it v u) (list_any (eq-value.it v) vs) e) (n, s)

pub not_indexed : (v : Vertex) (es : List (Vertex × ℕ)) → is_some (lookup (eq-value.it v) es) ≡ false → IsKnown (keys_of es) v → ⊥
not_indexed v es e = not_any v (keys_of es) (sym (is_some-lookup (eq-value.it v) es) ∙ e)

-- the number that is found stands beside the place
pub found_at : (v : Vertex) (es : List (Vertex × ℕ)) (n : ℕ) → lookup (eq-value.it v) es ≡ Some n → (k : ℕ) × (slice_get es k ≡ Some (v, n))
found_at v es n e =
    let p = place_from_lookup (eq-value.it v) es n e in
    let same : p.1 ≡ v = sym (same_is v p.1 p.3) in
    (p.0, p.2 ∙ ap (λ (u : Vertex). Some (u, n)) same)

key_at : (es : List (Vertex × ℕ)) (k : ℕ) (v : Vertex) (n : ℕ) → slice_get es k ≡ Some (v, n) → slice_get (keys_of es) k ≡ Some v
key_at [] k v n e = cc
key_at (x ∷ es) zero v n e = let same : x ≡ (v, n) = cc in ap (λ (y : Vertex × ℕ). Some y.0) same
key_at (x ∷ es) (suc k) v n e = key_at es k v n e

pub indexed : (v : Vertex) (es : List (Vertex × ℕ)) → is_some (lookup (eq-value.it v) es) ≡ true → IsKnown (keys_of es) v
indexed v es t = by (lookup (eq-value.it v) es) refl
  where
    by : (o : Option ℕ) → lookup (eq-value.it v) es ≡ o → IsKnown (keys_of es) v
    by None e = absurd (true≢false (sym t ∙ ap is_some e))
    by (Some n) e = let f = found_at v es n e in (f.0, key_at es f.0 v n f.1)

-- a place more, with its number noted
keys_more : (es : List (Vertex × ℕ)) (v : Vertex) (n : ℕ) → keys_of (es ++ (v, n) ∷ []) ≡ keys_of es ++ v ∷ []
keys_more [] v n = refl
keys_more (x ∷ es) v n = ap (λ l. x.0 ∷ l) (keys_more es v n)

pub indexed_more : (vs : List Vertex) (es new : List (Vertex × ℕ)) (v : Vertex) → IsIndexed vs es → length vs < 32767 → IsNoted es v (length vs) new → IsIndexed (vs ++ v ∷ []) new
indexed_more vs es new v h few (inl k) =
    let l = length-append vs (v ∷ []) in
    subst (IsIndexed (vs ++ v ∷ [])) (sym k.1)
    (record {
      few = omega arith;
      stands = λ i n u at. stays vs (v ∷ []) n u (h.stands i n u at);
      first = λ i n u at. stays_first vs (v ∷ []) n u (h.stands i n u at) (h.first i n u at);
      all = λ u e. ⊎_elim (λ s. h.all u (e.0, s)) (λ s. subst (IsKnown (keys_of es)) s.1 k.0) (cases vs v e.0 u e.1);
    })
indexed_more vs es new v h few (inr k) =
    let l = length-append vs (v ∷ []) in
    subst (IsIndexed (vs ++ v ∷ [])) (sym k.1)
    (record {
      few = omega arith;
      stands = λ i n u at. ⊎_elim (λ s. stays vs (v ∷ []) n u (h.stands i n u s)) (λ s. at_last n u s.1) (cases es (v, length vs) i (u, n) at);
      first = λ i n u at. ⊎_elim (λ s. stays_first vs (v ∷ []) n u (h.stands i n u s) (h.first i n u s)) (λ s. first_last n u s.1) (cases es (v, length vs) i (u, n) at);
      all = λ u e. subst (λ (ks : List Vertex). IsKnown ks u) (sym (keys_more es v (length vs)))
          (⊎_elim (λ s. let a = h.all u (e.0, s) in (a.0, stays (keys_of es) (v ∷ []) a.0 u a.1))
          (λ s. (length (keys_of es), last (keys_of es) v ∙ ap Some s.1)) (cases vs v e.0 u e.1));
    })
  where
    unknown : IsKnown vs v → ⊥
    unknown e = k.0 (h.all v e)

    at_last : (n : ℕ) (u : Vertex) → ◌≡◌ {A = Vertex × ℕ} (v, length vs) (u, n) → slice_get (vs ++ v ∷ []) n ≡ Some u
    at_last n u e = ap (slice_get (vs ++ v ∷ [])) (sym (ap (λ (x : Vertex × ℕ). x.1) e)) ∙ last vs v ∙ ap (λ (x : Vertex × ℕ). Some x.0) e

    first_last : (n : ℕ) (u : Vertex) → ◌≡◌ {A = Vertex × ℕ} (v, length vs) (u, n) → StandsFirst (vs ++ v ∷ []) n
    first_last n u e = subst (StandsFirst (vs ++ v ∷ [])) (ap (λ (x : Vertex × ℕ). x.1) e) (new_first vs v unknown)

-- ---- what is asked for
-- a known place has its lowest number
pub number_known : (vs : List Vertex) (es : List (Vertex × ℕ)) (v : Vertex) (n : ℕ) → IsIndexed vs es → lookup (eq-value.it v) es ≡ Some n → (slice_get vs n ≡ Some v) × StandsFirst vs n
number_known vs es v n h e = let f = found_at v es n e in (h.stands f.0 n v f.1, h.first f.0 n v f.1)

pub number_new : (vs : List Vertex) (es : List (Vertex × ℕ)) (v : Vertex) → IsIndexed vs es → lookup (eq-value.it v) es ≡ None → IsKnown vs v → ⊥
number_new vs es v h e k = not_indexed v es (ap is_some e) (h.all v k)

-- a place that was put behind the others has the number where it stands, and is new if it was not known
module _ {E : Type 0} (old new : List Vertex) (v : Vertex) where
  pub pushed_number : (r : Result ℕ E) → OnOk r (new ≡ old ++ v ∷ []) → IfOk r (λ n. n ≡ length old) → IfOk r (λ n. slice_get new n ≡ Some v)
  pushed_number (Ok n) p q = ap (λ (vs : List Vertex). slice_get vs n) p ∙ ap (slice_get (old ++ v ∷ [])) q ∙ last old v
  pushed_number (Err e) p q = tt

  pub pushed_first : (r : Result ℕ E) → OnOk r (new ≡ old ++ v ∷ []) → IfOk r (λ n. n ≡ length old) → (IsKnown old v → ⊥) → IfOk r (StandsFirst new)
  pushed_first (Ok n) p q unknown = subst (λ (vs : List Vertex). StandsFirst vs n) (sym p) (subst (StandsFirst (old ++ v ∷ [])) (sym q) (new_first old v unknown))
  pushed_first (Err e) p q unknown = tt

  pub pushed_places : (r : Result ℕ E) → OnOk r (new ≡ old ++ v ∷ []) → (IsKnown old v → ⊥) → OnOk r (IsWithPlace old v new)
  pushed_places (Ok n) p unknown = inr (unknown, p)
  pushed_places (Err e) p unknown = tt

pub none_of : {X : Type 0} (o : Option X) → is_some o ≡ false → o ≡ None
none_of None e = refl
none_of (Some x) e = cc
