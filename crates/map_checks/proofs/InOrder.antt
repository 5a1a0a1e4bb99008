-- Lists in strict order: joined ones, and those made of ones in order.
use Rattle.std.proofs.Common.{◌≡◌, ℕ, ◌+◌, Bool, true, false, cond, List, [], ◌∷◌, ◌++◌, map, filter, flat_map, ap, ◌∙◌, arith}
use Rattle.std.specs.declared.cmp.Ordering.{Ordering}
use Rattle.std.specs.declared.cmp.Ordering.TheVariants.{Less}
use Rattle.std.specs.Cmp.{IsTotalOrder, then_total, on_total, nat_cmp_total, tied_itself}
use Rattle.std.specs.Ordering.{nat_cmp, ordering_then}
use Rattle.std.specs.List.{range_with_len, AllByRecursion}
use Rattle.std.specs.List.Sorted.{IsStrictlySortedBy}
use Rattle.std.specs.Map.{keys_of}
use Rattle.std.proofs.lemmas.List.FromFn.{length-range_with_len, get_or-range_with_len}
use Rattle.std.proofs.lemmas.Map.Keys.{sorted_from_strictly_increasing}
use Rattle.map_checks.specs.Tallies.{corner_cmp}

module _ {X : Type 0} (P : X → Type 0) where
  pub each-append : (xs ys : List X) → AllByRecursion P xs → AllByRecursion P ys → AllByRecursion P (xs ++ ys)
  each-append [] ys a b = b
  each-append (x ∷ xs) ys a b = (a.0, each-append xs ys a.1 b)

  pub each-weaker : (Q : X → Type 0) → ((x : X) → P x → Q x) → (xs : List X) → AllByRecursion P xs → AllByRecursion Q xs
  each-weaker Q f [] a = tt
  each-weaker Q f (x ∷ xs) a = (f x a.0, each-weaker Q f xs a.1)

  pub each-always : ((x : X) → P x) → (xs : List X) → AllByRecursion P xs
  each-always f [] = tt
  each-always f (x ∷ xs) = (f x, each-always f xs)

  pub each-map : {Y : Type 0} (f : Y → X) (ys : List Y) → AllByRecursion (λ y. P (f y)) ys → AllByRecursion P (map f ys)
  each-map f [] a = tt
  each-map f (y ∷ ys) a = (a.0, each-map f ys a.1)

  pub each-flat_map : {Y : Type 0} (f : Y → List X) (ys : List Y) → AllByRecursion (λ y. AllByRecursion P (f y)) ys
      → AllByRecursion P (flat_map f ys)
  each-flat_map f [] a = tt
  each-flat_map f (y ∷ ys) a = each-append (f y) (flat_map f ys) a.0 (each-flat_map f ys a.1)

  pub each-keys-filter : {Z : Type 0} (p : X × Z → Bool) (es : List (X × Z)) → AllByRecursion P (keys_of es)
      → AllByRecursion P (keys_of (filter p es))
  each-keys-filter p [] a = tt
  each-keys-filter p (e ∷ es) a = kept (p e) (each-keys-filter p es a.1)
    where
      kept : (b : Bool) → AllByRecursion P (keys_of (filter p es)) → AllByRecursion P (keys_of (cond b (e ∷ filter p es) (filter p es)))
      kept true r = (a.0, r)
      kept false r = r

module _ {K : Type 0} (c : K → K → Ordering) where
  pub in_order-append : (xs ys : List K) → IsStrictlySortedBy c xs → IsStrictlySortedBy c ys
      → AllByRecursion (λ x. AllByRecursion (λ y. c x y ≡ Less) ys) xs → IsStrictlySortedBy c (xs ++ ys)
  unfolding IsStrictlySortedBy
  in_order-append [] ys a b r = b
  in_order-append (x ∷ xs) ys a b r = (each-append (λ y. c x y ≡ Less) xs ys a.0 r.0, in_order-append xs ys a.1 b r.1)

  pub in_order-keys-filter : {Z : Type 0} (p : K × Z → Bool) (es : List (K × Z)) → IsStrictlySortedBy c (keys_of es)
      → IsStrictlySortedBy c (keys_of (filter p es))
  unfolding IsStrictlySortedBy
  in_order-keys-filter p [] a = tt
  in_order-keys-filter p (e ∷ es) a = kept (p e) (in_order-keys-filter p es a.1)
    where
      kept : (b : Bool) → IsStrictlySortedBy c (keys_of (filter p es)) → IsStrictlySortedBy c (keys_of (cond b (e ∷ filter p es) (filter p es)))
      kept true r = (each-keys-filter (λ y. c e.0 y ≡ Less) p es a.0, r)
      kept false r = r

pub in_order-range : (n : ℕ) → IsStrictlySortedBy nat_cmp (range_with_len 0 n)
in_order-range n =
    sorted_from_strictly_increasing (range_with_len 0 n)
    (λ k h.
    let l = length-range_with_len 0 n in
    let a = get_or-range_with_len 0 n k 0 (omega (arith, l)) in
    let b = get_or-range_with_len 0 n (k + 1) 0 (omega (arith, l)) in
    omega (arith, a, b))

pub corner_total : IsTotalOrder corner_cmp
corner_total = then_total (on_total (λ (x : ℕ × ℕ). x.0) nat_cmp_total) (on_total (λ (x : ℕ × ℕ). x.1) nat_cmp_total)

-- corners of the same sector are ordered by vertex, others by sector
corner_cmp-same : (s v w : ℕ) → nat_cmp v w ≡ Less → corner_cmp (s, v) (s, w) ≡ Less
corner_cmp-same s v w e = ap (λ r. ordering_then r (nat_cmp v w)) (tied_itself nat_cmp_total s) ∙ e

corner_cmp-apart : (x y : ℕ × ℕ) → nat_cmp x.0 y.0 ≡ Less → corner_cmp x y ≡ Less
corner_cmp-apart x y e = ap (λ r. ordering_then r (nat_cmp x.1 y.1)) e

pub in_order-row : (s : ℕ) (vs : List ℕ) → IsStrictlySortedBy nat_cmp vs → IsStrictlySortedBy corner_cmp (map (λ v. (s, v)) vs)
unfolding IsStrictlySortedBy
in_order-row s [] a = tt
in_order-row s (v ∷ vs) a = (
  each-map (λ y. corner_cmp (s, v) y ≡ Less) (λ v. (s, v)) vs
      (each-weaker (λ w. nat_cmp v w ≡ Less) (λ w. corner_cmp (s, v) (s, w) ≡ Less) (λ w e. corner_cmp-same s v w e) vs a.0),
  in_order-row s vs a.1,
)

-- rows of corners, one for each sector
pub in_order-rows : (row : ℕ → List ℕ) → ((s : ℕ) → IsStrictlySortedBy nat_cmp (row s)) → (ss : List ℕ) → IsStrictlySortedBy nat_cmp ss
    → IsStrictlySortedBy corner_cmp (flat_map (λ s. map (λ v. (s, v)) (row s)) ss)
unfolding IsStrictlySortedBy
in_order-rows row h [] a = tt
in_order-rows row h (s ∷ ss) a =
    in_order-append corner_cmp (map (λ v. (s, v)) (row s)) (flat_map (λ s. map (λ v. (s, v)) (row s)) ss)
    (in_order-row s (row s) (h s)) (in_order-rows row h ss a.1)
    (each-map (λ x. AllByRecursion (λ y. corner_cmp x y ≡ Less) (flat_map (λ s. map (λ v. (s, v)) (row s)) ss)) (λ v. (s, v)) (row s)
    (each-always (λ v. AllByRecursion (λ y. corner_cmp (s, v) y ≡ Less) (flat_map (λ s. map (λ v. (s, v)) (row s)) ss))
    (λ v.
    each-flat_map (λ y. corner_cmp (s, v) y ≡ Less) (λ s. map (λ v. (s, v)) (row s)) ss
    (each-weaker (λ t. nat_cmp s t ≡ Less) (λ t. AllByRecursion (λ y. corner_cmp (s, v) y ≡ Less) (map (λ v. (t, v)) (row t)))
    (λ t e.
    each-map (λ y. corner_cmp (s, v) y ≡ Less) (λ v. (t, v)) (row t)
    (each-always (λ w. corner_cmp (s, v) (t, w) ≡ Less) (λ w. corner_cmp-apart (s, v) (t, w) e) (row t)))
    ss a.0))
    (row s)))
