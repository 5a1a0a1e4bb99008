-- The set of places after each step.
use Rattle.std.proofs.Common.{◌≡◌, ◌≢◌, ◌∙◌, refl, sym, ap, ℕ, suc, zero, ◌+◌, ◌<◌, Bool, if◌then◌else◌, true, false, ◌&&◌, ◌||◌, cond, not, List, [], ◌∷◌, length, take, get_or, arith, Decides, ◌==◌}
use Rattle.std.specs.List.{list_any, AllPairs, remove, enumerate_from}
use Rattle.std.specs.Ordering.{int_eq}
use Rattle.std.proofs.Math.Bool.{or_comm}
use Rattle.std.specs.Cmp.{IsEquivalence}
use Rattle.std.specs.HashSet as bag
use Rattle.std.specs.HashSet.{HashSet}
use Rattle.std.proofs.lemmas.List.Folds.{list_any_none, list_any_more, list_any_at}
use Rattle.std.proofs.lemmas.List.Edits.{length-remove}
use Rattle.std.proofs.lemmas.Bool.{ne_eqb, eq-eqb, both_ways}
use Rattle.std.proofs.Math.ListN.{set}
use Rattle.std.proofs.lemmas.List.{get_or-take, get_or_default, length-take}
use Rattle.std.proofs.lemmas.Cmp.{int_eq_equiv, and_equiv, on_equiv}
use Rattle.std.proofs.lemmas.Bool.Decides.{Decides-int_eq, Decides-and, Decides-like}
use Rattle.lump_records.specs.declared.records.Vertex.{Vertex}
use Rattle.map_tables.specs.Faults.{is_place, is_taken, is_taken_beside}
use Rattle.map_tables.specs.Edits.{lowered}
use Rattle.map_tables.proofs.ListLemmas.{all_pairs_set, get_or-lowered, lowered_fits}

-- what `==` returns for vertices
abbrev pub same : Vertex → Vertex → Bool
same v w = int_eq v.x w.x && int_eq v.y w.y

pub same_equiv : IsEquivalence same
same_equiv = and_equiv (on_equiv (λ (v : Vertex). v.x) int_eq_equiv) (on_equiv (λ (v : Vertex). v.y) int_eq_equiv)

pub same_decides : (v w : Vertex) → Decides (same v w) (v ≡ w)
same_decides v w =
    Decides-like (same v w) (λ h. λ i. record { x = h.0 i; y = h.1 i }) (λ h. (ap (λ u. u.x) h, ap (λ u. u.y) h))
    (Decides-and (int_eq v.x w.x) (int_eq v.y w.y) (Decides-int_eq v.x w.x) (Decides-int_eq v.y w.y))

-- by how much a set grows or shrinks
abbrev pub one_if : Bool → ℕ
one_if b = if b then 1 else 0

-- the set's own test finds the places that are taken
pub found_is : (places : List Vertex) (v : Vertex) → list_any (same v) places ≡ is_taken places v
found_is [] v = refl
found_is (w ∷ places) v = rw (found_is places v, same_equiv.symm v w) refl

-- after an insertion
pub taken_more : {S : Type 0} (old new : HashSet Vertex S) (place : Vertex) → bag.Updates same old new place true
    → (v : Vertex) → is_taken (bag.keys new) v ≡ (is_place v place || is_taken (bag.keys old) v)
taken_more old new place u v = rw (← found_is (bag.keys new) v, ← found_is (bag.keys old) v, u.0 v) (by (same place v) (list_any (same v) (bag.keys old)))
  where
    by : (b c : Bool) → cond b true c ≡ (b || c)
    by true c = refl
    by false c = refl

-- after a removal
pub taken_fewer : {S : Type 0} (old new : HashSet Vertex S) (place : Vertex) → bag.UpdatesBy same (same place) old new false
    → (v : Vertex) → is_taken (bag.keys new) v ≡ (not (is_place v place) && is_taken (bag.keys old) v)
taken_fewer old new place u v = rw (← found_is (bag.keys new) v, ← found_is (bag.keys old) v, u.0 v) (by (same place v) (list_any (same v) (bag.keys old)))
  where
    by : (b c : Bool) → cond b false c ≡ (not b && c)
    by true c = refl
    by false c = refl

-- ---- Vertices that are apart

no_match : (b : Bool) (P : Type 0) → (b ≡ true → P) → (P → ⊥) → b ≡ false
no_match true P f g = absurd (g (f refl))
no_match false P f g = refl

-- another vertex isn't at the place
pub other_place : (v w : Vertex) → w ≢ v → is_place v w ≡ false
other_place v w apart = no_match (is_place v w) (w ≡ v) ((same_decides w v).0) apart

-- a place that none of them has
pub free_among : (vs : List Vertex) (v : Vertex) → ((k : ℕ) (d : Vertex) → k < length vs → get_or vs k d ≢ v) → is_taken vs v ≡ false
free_among vs v apart = list_any_none (is_place v) vs (λ k d h. other_place v (get_or vs k d) (apart k d h))

-- the next one's place is free among those before it
pub next_free : (vs : List Vertex) (i : ℕ) (d : Vertex) → i < length vs → AllPairs (λ v w. v ≢ w) vs → is_taken (take i vs) (get_or vs i d) ≡ false
next_free vs i d at apart =
    free_among (take i vs) (get_or vs i d) (λ k e h.
    let few = length-take i vs in
    let inside : k < i = omega (arith, few) in
    rw (get_or-take i vs k e inside, get_or_default vs i d e at) (apart k i e inside at))

-- one more vertex, whose place is appended
pub taken_step : (marked vs : List Vertex) (i : ℕ) (d v : Vertex) → i < length vs → is_taken marked v
    ≡ is_taken (take i vs) v → (is_place v (get_or vs i d) || is_taken marked v) ≡ is_taken (take (i + 1) vs) v
taken_step marked vs i d v at e = rw (list_any_more (is_place v) vs i d at, e) (or_comm (is_place v (get_or vs i d)) (is_taken (take i vs) v))

-- ---- The places of a list of vertices after each edit

-- without one
pub taken_remove : (vs : List Vertex) (n : ℕ) (d v : Vertex) → n < length vs → AllPairs (λ v w. v ≢ w) vs → is_taken (remove vs n) v ≡ (not (is_place v (get_or vs n d)) && is_taken vs v)
taken_remove [] n d v at apart = absurd (omega arith)
taken_remove (w ∷ vs) zero d v at apart = by (is_place v w) refl
  where
    by : (b : Bool) → is_place v w ≡ b → is_taken vs v ≡ (not b && (b || is_taken vs v))
    by false e = refl
    by true e =
        let here : w ≡ v = (same_decides w v).0 e in
        free_among vs v (λ k f h same_place. apart 0 (suc k) f (omega arith) (omega (arith, h)) (here ∙ sym same_place))
taken_remove (w ∷ vs) (suc n) d v at apart =
    let rest : AllPairs (λ v w. v ≢ w) vs = λ i j f before within. apart (suc i) (suc j) f (omega (arith, before)) (omega (arith, within)) in
    by (taken_remove vs n d v (omega (arith, at)) rest) (is_place v w) refl
  where
    by : (is_taken (remove vs n) v ≡ (not (is_place v (get_or vs n d)) && is_taken vs v)) → (b : Bool) → is_place v w ≡ b
        → (b || is_taken (remove vs n) v) ≡ (not (is_place v (get_or vs n d)) && (b || is_taken vs v))
    by fewer false e = fewer
    by fewer true e =
        let here : w ≡ v = (same_decides w v).0 e in
        let other : is_place v (get_or vs n d) ≡ false = other_place v (get_or vs n d) (λ f. apart 0 (suc n) d (omega arith) at (here ∙ sym f)) in
        rw other refl

-- with one replaced
pub taken_set : (vs : List Vertex) (n : ℕ) (v w : Vertex) → n < length vs → is_taken (set vs n v) w ≡ (is_place w v || is_taken (remove vs n) w)
taken_set [] n v w at = absurd (omega arith)
taken_set (u ∷ vs) zero v w at = refl
taken_set (u ∷ vs) (suc n) v w at =
    ap (λ b. is_place w u || b) (taken_set vs n v w (omega (arith, at))) ∙ by (is_place w u) (is_place w v) (is_taken (remove vs n) w)
  where
    by : (a b c : Bool) → (a || (b || c)) ≡ (b || (a || c))
    by true true c = refl
    by true false c = refl
    by false true c = refl
    by false false c = refl

-- another vertex is at a place if it is taken without the one vertex
abbrev beside_test : ℕ → Vertex → ℕ × Vertex → Bool
beside_test n v w = not (w.0 == n) && is_place v w.1

beside_behind : (vs : List Vertex) (k n : ℕ) (v : Vertex) → n < k → list_any (beside_test n v) (enumerate_from k vs) ≡ is_taken vs v
beside_behind [] k n v behind = refl
beside_behind (w ∷ vs) k n v behind =
    ap (λ b. (not b && is_place v w) || list_any (beside_test n v) (enumerate_from (k + 1) vs)) (ne_eqb k n (λ e. omega (arith, e)))
    ∙ ap (λ b. is_place v w || b) (beside_behind vs (k + 1) n v (omega arith))

beside_from : (vs : List Vertex) (k n m : ℕ) (v : Vertex) → m ≡ n + k → list_any (beside_test m v) (enumerate_from k vs) ≡ is_taken (remove vs n) v
beside_from [] k zero m v e = refl
beside_from [] k (suc n) m v e = refl
beside_from (w ∷ vs) k zero m v e =
    ap (λ b. (not b && is_place v w) || list_any (beside_test m v) (enumerate_from (k + 1) vs)) (eq-eqb k m (omega (arith, e)))
    ∙ beside_behind vs (k + 1) m v (omega (arith, e))
beside_from (w ∷ vs) k (suc n) m v e =
    ap (λ b. (not b && is_place v w) || list_any (beside_test m v) (enumerate_from (k + 1) vs)) (ne_eqb k m (λ f. omega (arith, e, f)))
    ∙ ap (λ b. is_place v w || b) (beside_from vs (k + 1) n m v (omega (arith, e)))

pub beside_is : (vs : List Vertex) (n : ℕ) (v : Vertex) → is_taken_beside vs n v ≡ is_taken (remove vs n) v
beside_is vs n v = beside_from vs 0 n n v (omega arith)

-- a vertex's own place is taken
pub own_taken : (vs : List Vertex) (n : ℕ) (d : Vertex) → n < length vs → is_taken vs (get_or vs n d) ≡ true
own_taken vs n d at = list_any_at (is_place (get_or vs n d)) vs n d at ((same_decides (get_or vs n d) (get_or vs n d)).1 refl)

-- vertices stay apart with one at a free place
pub apart_set : (vs : List Vertex) (n : ℕ) (v : Vertex) → n < length vs → AllPairs (λ v w. v ≢ w) vs → is_taken_beside vs n v ≡ false → AllPairs (λ v w. v ≢ w) (set vs n v)
apart_set vs n v at apart free =
    let out : is_taken (remove vs n) v ≡ false = sym (beside_is vs n v) ∙ free in
    all_pairs_set (λ v w. v ≢ w) vs n v at apart (λ k d h other.
    let differ : get_or vs k d ≢ v = λ e. elsewhere k d h other out e in
    (differ, λ e. differ (sym e)))
  where
    elsewhere : (k : ℕ) (d : Vertex) → k < length vs → k ≢ n → is_taken (remove vs n) v ≡ false → get_or vs k d ≢ v
    elsewhere k d h other out e =
        let fewer = length-remove vs n at in
        let stays : get_or (remove vs n) (lowered n k) d ≡ v = get_or-lowered vs n k d at other ∙ e in
        let inside : lowered n k < length (remove vs n) = lowered_fits n k (length (remove vs n)) (omega (arith, fewer, at)) (omega (arith, fewer, h)) other in
        let there : is_taken (remove vs n) v ≡ true = list_any_at (is_place v) (remove vs n) (lowered n k) d inside ((same_decides (get_or (remove vs n) (lowered n k) d) v).1 stays) in
        both_ways (is_taken (remove vs n) v) out there

-- ---- The questions that the set answers

-- the places that are left once a vertex is removed
pub left_without : (vs marked : List Vertex) (n : ℕ) (d gone : Vertex) → n < length vs → AllPairs (λ v w. v ≢ w) vs → ((v : Vertex) → is_taken marked v ≡ is_taken vs v)
    → gone ≡ get_or vs n d → (v : Vertex) → is_taken (remove vs n) v ≡ (not (is_place v gone) && is_taken marked v)
left_without vs marked n d gone at apart known here v = rw (known v, here) (taken_remove vs n d v at apart)

-- and once it has moved
pub left_with : (vs marked : List Vertex) (n : ℕ) (d gone to : Vertex) → n < length vs → AllPairs (λ v w. v ≢ w) vs → ((v : Vertex) → is_taken marked v ≡ is_taken vs v)
    → gone ≡ get_or vs n d → (v : Vertex) → is_taken (set vs n to) v ≡ (is_place v to || (not (is_place v gone) && is_taken marked v))
left_with vs marked n d gone to at apart known here v =
    taken_set vs n to v at ∙ ap (λ b. is_place v to || b) (left_without vs marked n d gone at apart known here v)

-- a place where no other vertex is
pub beside_known : (vs marked : List Vertex) (n : ℕ) (d gone to : Vertex) → n < length vs → AllPairs (λ v w. v ≢ w) vs → ((v : Vertex) → is_taken marked v ≡ is_taken vs v)
    → gone ≡ get_or vs n d → is_taken_beside vs n to ≡ (not (is_place to gone) && is_taken marked to)
beside_known vs marked n d gone to at apart known here = beside_is vs n to ∙ left_without vs marked n d gone at apart known here to
