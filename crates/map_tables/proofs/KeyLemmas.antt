-- Lists of different keys, and the values of a function at each.
use Rattle.std.proofs.Common.{◌≡◌, ◌≢◌, ◌∙◌, refl, sym, ap, ℕ, zero, suc, ◌+◌, ◌<◌, ◌≤◌, ◌⊎◌, inl, inr, List, [], ◌∷◌, length, get_or, arith}
use Rattle.std.specs.Prelude.{Option, Some, None, IsSome, All, AllPairs, remove, slice_get, filter_map}
use Rattle.std.specs.List.{cons_option}
use Rattle.std.proofs.Math.ListN.{set}
use Rattle.std.proofs.lemmas.Bool.{cases_lt}
use Rattle.std.proofs.lemmas.List.Elements.{All-from_get_or, All-head, All-tail}
use Rattle.std.proofs.lemmas.List.Edits.{get_or-remove_below, get_or-remove_above, length-remove}

-- ---- Values of keys

pub given_same : {T : Type 0} (f g : ℕ → Option T) (keys : List ℕ) → All (λ k. f k ≡ g k) keys → filter_map f keys ≡ filter_map g keys
given_same f g [] a = refl
given_same {T} f g (k ∷ keys) a =
    ap (λ (o : Option T). cons_option o (filter_map f keys)) (All-head (λ k. f k ≡ g k) k keys a)
    ∙ ap (λ (xs : List T). cons_option (g k) xs) (given_same f g keys (All-tail (λ k. f k ≡ g k) k keys a))

pub given_length : {T : Type 0} (f : ℕ → Option T) (keys : List ℕ) → All (λ k. IsSome (f k)) keys → length (filter_map f keys) ≡ length keys
given_length f [] a = refl
given_length {T} f (k ∷ keys) a = by (f k) (All-head (λ k. IsSome (f k)) k keys a) (given_length f keys (All-tail (λ k. IsSome (f k)) k keys a))
  where
    by : (o : Option T) → IsSome o → length (filter_map f keys) ≡ length keys → length (cons_option o (filter_map f keys)) ≡ length (k ∷ keys)
    by None h e = absurd (cc)
    by (Some x) h e = omega (arith, e)

pub given_at : {T : Type 0} (f : ℕ → Option T) (keys : List ℕ) (n d : ℕ) → All (λ k. IsSome (f k)) keys → n < length keys → slice_get (filter_map f keys) n ≡ f (get_or keys n d)
given_at f [] n d a at = absurd (omega arith)
given_at {T} f (k ∷ keys) zero d a at = by (f k) (All-head (λ k. IsSome (f k)) k keys a)
  where
    by : (o : Option T) → IsSome o → slice_get (cons_option o (filter_map f keys)) 0 ≡ o
    by None h = absurd (cc)
    by (Some x) h = refl
given_at {T} f (k ∷ keys) (suc n) d a at = by (f k) (All-head (λ k. IsSome (f k)) k keys a) (given_at f keys n d (All-tail (λ k. IsSome (f k)) k keys a) (omega (arith, at)))
  where
    by : (o : Option T) → IsSome o → slice_get (filter_map f keys) n ≡ f (get_or keys n d) → slice_get (cons_option o (filter_map f keys)) (suc n) ≡ f (get_or keys n d)
    by None h e = absurd (cc)
    by (Some x) h e = e

pub given_remove : {T : Type 0} (f : ℕ → Option T) (keys : List ℕ) (n : ℕ) → All (λ k. IsSome (f k)) keys → filter_map f (remove keys n) ≡ remove (filter_map f keys) n
given_remove f [] zero a = refl
given_remove f [] (suc n) a = refl
given_remove {T} f (k ∷ keys) zero a = by (f k) (All-head (λ k. IsSome (f k)) k keys a)
  where
    by : (o : Option T) → IsSome o → filter_map f keys ≡ remove (cons_option o (filter_map f keys)) 0
    by None h = absurd (cc)
    by (Some x) h = refl
given_remove {T} f (k ∷ keys) (suc n) a = by (f k) (All-head (λ k. IsSome (f k)) k keys a) (given_remove f keys n (All-tail (λ k. IsSome (f k)) k keys a))
  where
    by : (o : Option T) → IsSome o → filter_map f (remove keys n) ≡ remove (filter_map f keys) n → cons_option o (filter_map f (remove keys n)) ≡ remove (cons_option o (filter_map f keys)) (suc n)
    by None h e = absurd (cc)
    by (Some x) h e = ap (λ (xs : List T). x ∷ xs) e

-- another value for the n-th key
pub given_set : {T : Type 0} (f g : ℕ → Option T) (keys : List ℕ) (n : ℕ) (v : T) → All (λ k. IsSome (f k)) keys → n < length keys → g (get_or keys n 0) ≡ Some v
    → ((i : ℕ) → i < length keys → i ≢ n → g (get_or keys i 0) ≡ f (get_or keys i 0)) → filter_map g keys ≡ set (filter_map f keys) n v
given_set f g [] n v a at new others = absurd (omega arith)
given_set {T} f g (k ∷ keys) zero v a at new others =
    ap (λ (o : Option T). cons_option o (filter_map g keys)) new
    ∙ ap (λ (xs : List T). v ∷ xs) (given_same g f keys rest)
    ∙ by (f k) (All-head (λ k. IsSome (f k)) k keys a)
  where
    rest : All (λ k. g k ≡ f k) keys
    rest = All-from_get_or (λ k. g k ≡ f k) keys 0 (λ i b. others (suc i) (omega (arith, b)) (λ e. omega (arith, e)))

    by : (o : Option T) → IsSome o → v ∷ filter_map f keys ≡ set (cons_option o (filter_map f keys)) 0 v
    by None h = absurd (cc)
    by (Some x) h = refl
given_set {T} f g (k ∷ keys) (suc n) v a at new others =
    ap (λ (o : Option T). cons_option o (filter_map g keys)) (others 0 (omega arith) (λ e. omega (arith, e)))
    ∙ by (f k) (All-head (λ k. IsSome (f k)) k keys a)
    (given_set f g keys n v (All-tail (λ k. IsSome (f k)) k keys a) (omega (arith, at)) new (λ i b o. others (suc i) (omega (arith, b)) (λ e. o (omega (arith, e)))))
  where
    by : (o : Option T) → IsSome o → filter_map g keys ≡ set (filter_map f keys) n v → cons_option o (filter_map g keys) ≡ set (cons_option o (filter_map f keys)) (suc n) v
    by None h e = absurd (cc)
    by (Some x) h e = ap (λ (xs : List T). x ∷ xs) e

-- ---- Keys that differ

pub rest_apart : (keys : List ℕ) (n : ℕ) → n < length keys → AllPairs (λ i j. i ≢ j) keys → All (λ k. k ≢ get_or keys n 0) (remove keys n)
rest_apart keys n h pairs =
    All-from_get_or (λ k. k ≢ get_or keys n 0) (remove keys n) 0 (λ i b. by i b (cases_lt i n))
  where
    by : (i : ℕ) → i < length (remove keys n) → (i < n) ⊎ (n ≤ i) → get_or (remove keys n) i 0 ≢ get_or keys n 0
    by i b (inl l) = rw (get_or-remove_below keys n 0 i l h) (pairs i n 0 l h)
    by i b (inr g) =
        let r = length-remove keys n h in
        rw (get_or-remove_above keys n 0 i g h) (λ e. pairs n (i + 1) 0 (omega arith) (omega (arith, r, b)) (sym e))

pub two_apart : (keys : List ℕ) (i n : ℕ) → AllPairs (λ j k. j ≢ k) keys → i < length keys → n < length keys → i ≢ n → get_or keys i 0 ≢ get_or keys n 0
two_apart keys i n pairs a b other = by (cases_lt i n)
  where
    by : (i < n) ⊎ (n ≤ i) → get_or keys i 0 ≢ get_or keys n 0
    by (inl l) = pairs i n 0 l b
    by (inr g) = λ e. pairs n i 0 (omega arith) a (sym e)
