-- Marks of the used items, as one more user is read.
use Rattle.std.proofs.Common.{◌≡◌, ℕ, zero, suc, not, ◌+◌, ◌<◌, Bool, true, false, eqb, cond, ◌||◌, List, [], ◌∷◌, ◌++◌, length, get_or, set, take, map, filter, zero-add, append_assoc, Some, refl, sym, ap, ◌∙◌, ⊎_elim, arith}
use Rattle.std.specs.List.{list_any, slice_get, range_with_len}
use Rattle.std.proofs.lemmas.List.FromFn.{filter_of_map_range_with_len_more}
use Rattle.std.proofs.lemmas.Bool.{cases_eq, eq-eqb, ne_eqb}
use Rattle.std.proofs.lemmas.List.{map-append, map-id, length-set, get_or-set_same, get_or-set_other}
use Rattle.std.proofs.lemmas.List.Folds.{list_any_more}
use Rattle.std.proofs.lemmas.Option.{slice_get_within, get_or_from_slice_get}
use Rattle.map_checks.specs.Unused.{unused}
use Rattle.map_checks.specs.Tallies.{Marks}

pub or_false : (b : Bool) → b ≡ (b || false)
or_false true = refl
or_false false = refl

or_true : (b : Bool) → true ≡ (b || true)
or_true true = refl
or_true false = refl

or_assoc : (a b c : Bool) → ((a || b) || c) ≡ (a || (b || c))
or_assoc true b c = refl
or_assoc false b c = refl

get_or-set_mark : (marks : List Bool) (v k : ℕ) → v < length marks → get_or (set marks v true) k false ≡ (get_or marks k false || eqb v k)
get_or-set_mark marks v k h =
    ⊎_elim
    (λ e. ap (λ j. get_or (set marks v true) j false) e ∙ get_or-set_same marks v true false h
    ∙ or_true (get_or marks k false) ∙ ap (λ b. get_or marks k false || b) (sym (eq-eqb v k (sym e))))
    (λ ne. get_or-set_other marks v k true false ne
    ∙ or_false (get_or marks k false) ∙ ap (λ b. get_or marks k false || b) (sym (ne_eqb v k (λ e. ne (sym e)))))
    (cases_eq k v)

module _ {X Y : Type 0} (uses : ℕ → Y → Bool) (items : List X) (users : List Y) (n : ℕ) (y : Y) (is : slice_get users n ≡ Some y) (marks : List Bool) (m : Marks uses items (take n users) marks) where
  marks_step : (marks' : List Bool) → length marks' ≡ length marks → ((k : ℕ) → get_or marks' k false ≡ (get_or marks k false || uses k y))
      → Marks uses items (take (n + 1) users) marks'
  marks_step marks' len at = record {
    count = len ∙ m.count;
    used = λ k h.
        at k ∙ ap (λ b. b || uses k y) (m.used k h)
        ∙ ap (λ z. list_any (uses k) (take n users) || uses k z) (sym (get_or_from_slice_get users n y y is))
        ∙ sym (list_any_more (uses k) users n y (slice_get_within users n y is));
  }

  -- a user of one item
  pub marks_one : (v : ℕ) → v < length items → ((k : ℕ) → uses k y ≡ eqb v k) → Marks uses items (take (n + 1) users) (set marks v true)
  marks_one v h at =
      marks_step (set marks v true) (length-set marks v true)
      (λ k. get_or-set_mark marks v k (omega (arith, m.count)) ∙ ap (λ b. get_or marks k false || b) (sym (at k)))

  -- a user of two items
  pub marks_two : (v w : ℕ) → v < length items → w < length items → ((k : ℕ) → uses k y ≡ (eqb v k || eqb w k))
      → Marks uses items (take (n + 1) users) (set (set marks v true) w true)
  marks_two v w h g at =
      marks_step (set (set marks v true) w true) (length-set (set marks v true) w true ∙ length-set marks v true)
      (λ k.
      get_or-set_mark (set marks v true) w k (omega (arith, m.count, length-set marks v true))
      ∙ ap (λ b. b || eqb w k) (get_or-set_mark marks v k (omega (arith, m.count)))
      ∙ or_assoc (get_or marks k false) (eqb v k) (eqb w k)
      ∙ ap (λ b. get_or marks k false || b) (sym (at k)))

-- the numbers up to n that pass a test
pub filter_range_more : (p : ℕ → Bool) (n : ℕ) → filter p (range_with_len 0 (n + 1)) ≡ filter p (range_with_len 0 n) ++ cond (p n) (n ∷ []) []
filter_range_more p n = sym (ap (filter p) (map-id _)) ∙ filter_of_map_range_with_len_more p (λ x. x) 0 n n (zero-add n) ∙ ap (λ l. filter p l ++ cond (p n) (n ∷ []) []) (map-id _)

-- one more item, without or with a mark
pub marked_more : {Y : Type 0} (f : ℕ → Y) (p : ℕ → Bool) (n : ℕ) (init found : List Y) → found ≡ init ++ map f (filter p (range_with_len 0 n))
    → (b : Bool) → p n ≡ b → found ++ map f (cond b (n ∷ []) []) ≡ init ++ map f (filter p (range_with_len 0 (n + 1)))
marked_more f p n init found so_far b is =
    ap (λ l. l ++ map f (cond b (n ∷ []) [])) so_far
    ∙ append_assoc init (map f (filter p (range_with_len 0 n))) (map f (cond b (n ∷ []) []))
    ∙ ap (λ l. init ++ l)
    (sym
    (ap (map f) (filter_range_more p n ∙ ap (λ t. filter p (range_with_len 0 n) ++ cond t (n ∷ []) []) is)
    ∙ map-append f (filter p (range_with_len 0 n)) (cond b (n ∷ []) [])))

filter-agree_on : (p q : ℕ → Bool) (a n : ℕ) → ((k : ℕ) → k < a + n → p k ≡ q k) → filter p (range_with_len a n) ≡ filter q (range_with_len a n)
filter-agree_on p q a zero h = refl
filter-agree_on p q a (suc n) h =
    (λ i. cond (h a (omega arith) i) (a ∷ filter p (range_with_len (a + 1) n)) (filter p (range_with_len (a + 1) n)))
    ∙ ap (λ l. cond (q a) (a ∷ l) l) (filter-agree_on p q (a + 1) n (λ k l. h k (omega arith)))

-- the items without a mark are those that nothing uses
pub unused_from_marks : {X Y : Type 0} (uses : ℕ → Y → Bool) (items : List X) (users : List Y) (marks : List Bool) → Marks uses items users marks
    → filter (λ n. not (get_or marks n false)) (range_with_len 0 (length marks)) ≡ unused uses items users
unused_from_marks uses items users marks m =
    ap (λ n. filter (λ n. not (get_or marks n false)) (range_with_len 0 n)) m.count
    ∙ filter-agree_on (λ n. not (get_or marks n false)) (λ n. not (list_any (uses n) users)) 0 (length items) (λ k l. ap not (m.used k (omega arith)))
