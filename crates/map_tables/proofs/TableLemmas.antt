-- A table's items, its invariant after each edit of its slab and its order, and the ranks of its keys.
use Rattle.std.proofs.Common.{◌≡◌, ◌≢◌, ◌∙◌, refl, sym, ap, subst, ℕ, zero, suc, ◌+◌, ◌<◌, Bool, true, false, cond, not, ltb, ◌==◌, List, [], ◌∷◌, ◌++◌, length, get_or, arith, length-append}
use Rattle.std.specs.List.{cons_option}
use Rattle.std.specs.Prelude.{Option, Some, None, IsSome, All, AllPairs, remove, slice_set, filter_map, position}
use Rattle.std.proofs.lemmas.Bool.{eqb-true, eqb-false, eq-eqb, ne_eqb, ltb-false}
use Rattle.std.proofs.lemmas.List.Elements.{All-push, All-get_or, All-from_get_or, All-weaker, filter_map-append}
use Rattle.std.proofs.lemmas.List.Quantifiers.{all_pairs_push, all_pairs_remove}
use Rattle.std.proofs.lemmas.List.Sums.{position_or_len_is, passes_at_first, prefix_len-le-length}
use Rattle.std.proofs.lemmas.List.Folds.{position_or_len_push}
use Rattle.std.proofs.lemmas.List.Edits.{length-remove}
use Rattle.std.proofs.lemmas.List.{get_or-set_same, get_or-set_other}
use Rattle.slab.specs.Slab.{Slab, get, slab_len, ContainsKey, Updates, with_value}
use Rattle.map_tables.specs.Keys.{items_under, rank_of, IsKept}
use Rattle.map_tables.specs.Edits.{lowered}
use Rattle.map_tables.proofs.ListLemmas.{All-remove, lowered_fits, get_or-lowered}
use Rattle.map_tables.proofs.KeyLemmas.{given_same, given_length, given_remove, given_set, rest_apart, two_apart}

pub count_of_items : {T : Type 0} (s : Slab T) (keys : List ℕ) → IsKept s keys → length (items_under s keys) ≡ length keys
count_of_items s keys k = given_length (get s) keys k.held_each

-- ---- one more item
no_key : {T : Type 0} (s : Slab T) (key k : ℕ) → get s key ≡ None → ContainsKey s k → k ≢ key
no_key {T} s key k none has e =
    let h : IsSome (get s key) = subst (λ (j : ℕ). IsSome (get s j)) e has in
    let i : IsSome {T = T} None = subst (λ (o : Option T). IsSome o) none h in
    cc

kept_others : {T : Type 0} (s t : Slab T) (key : ℕ) (slot : Option T) (keys : List ℕ) → All (λ k. k ≢ key) keys → All (ContainsKey s) keys → Updates s t key slot → All (ContainsKey t) keys
kept_others {T} s t key slot keys apart held u =
    All-from_get_or (ContainsKey t) keys 0 (λ i b.
    subst (λ (o : Option T). IsSome o) (sym (u.others (get_or keys i 0)
    (All-get_or (λ k. k ≢ key) keys i 0 b apart))) (All-get_or (ContainsKey s) keys i 0 b held))

new_apart : {T : Type 0} (s : Slab T) (keys : List ℕ) (key : ℕ) → IsKept s keys → get s key ≡ None → All (λ k. k ≢ key) keys
new_apart s keys key k none = All-weaker (ContainsKey s) (λ j. j ≢ key) (λ j h. no_key s key j none h) keys k.held_each

pub push_items : {T : Type 0} (s t : Slab T) (keys : List ℕ) (key : ℕ) (v : T) → IsKept s keys → get s key ≡ None
    → Updates s t key (Some v) → items_under t (keys ++ key ∷ []) ≡ items_under s keys ++ v ∷ []
push_items {T} s t keys key v k none u =
    filter_map-append (get t) keys (key ∷ [])
    ∙ ap (λ (vs : List T). vs ++ filter_map (get t) (key ∷ []))
    (given_same (get t) (get s) keys (All-weaker (λ k. k ≢ key) (λ k. get t k ≡ get s k) (λ k h. u.others k h) keys
    (new_apart s keys key k none)))
    ∙ ap (λ (o : Option T). items_under s keys ++ cons_option o []) u.changed

pub push_keeps : {T : Type 0} (s t : Slab T) (keys : List ℕ) (key : ℕ) (v : T) → IsKept s keys → get s key ≡ None → Updates s t key (Some v) → slab_len t ≡ slab_len s + 1 → IsKept t (keys ++ key ∷ [])
push_keeps {T} s t keys key v k none u len =
    let apart = new_apart s keys key k none in
    let c = k.count in
    let l = length-append keys (key ∷ []) in
    record {
      differ = all_pairs_push (λ i j. i ≢ j) keys key k.differ (λ i d b. All-get_or (λ j. j ≢ key) keys i d b apart);
      held_each = All-push (ContainsKey t) keys key (kept_others s t key (Some v) keys apart k.held_each u) (subst (λ (o : Option T). IsSome o) (sym u.changed) refl);
      count = omega (arith, c, l, len);
    }

-- ---- one item less
pub remove_items : {T : Type 0} (s t : Slab T) (keys : List ℕ) (n : ℕ) → n < length keys → IsKept s keys
    → Updates s t (get_or keys n 0) None → items_under t (remove keys n) ≡ remove (items_under s keys) n
remove_items s t keys n h k u =
    given_same (get t) (get s) (remove keys n) (All-weaker (λ k. k ≢ get_or keys n 0) (λ k. get t k ≡ get s k) (λ k h. u.others k h) (remove keys n) (rest_apart keys n h k.differ))
    ∙ given_remove (get s) keys n k.held_each

pub remove_keeps : {T : Type 0} (s t : Slab T) (keys : List ℕ) (n : ℕ) → n < length keys → IsKept s keys → Updates s t (get_or keys n 0) None → slab_len t + 1 ≡ slab_len s → IsKept t (remove keys n)
remove_keeps s t keys n h k u len =
    let apart = rest_apart keys n h k.differ in
    let c = k.count in
    let l = length-remove keys n h in
    record {
      differ = all_pairs_remove (λ i j. i ≢ j) keys n h k.differ;
      held_each = kept_others s t (get_or keys n 0) None (remove keys n) apart (All-remove (ContainsKey s) keys n k.held_each) u;
      count = omega (arith, c, l, len);
    }

-- ---- another item under a key
pub set_items : {T : Type 0} (s t : Slab T) (keys : List ℕ) (n : ℕ) (v : T) → n < length keys → IsKept s keys
    → Updates s t (get_or keys n 0) (Some v) → items_under t keys ≡ slice_set (items_under s keys) n v
set_items s t keys n v h k u =
    given_set (get s) (get t) keys n v k.held_each h u.changed (λ i b other. u.others (get_or keys i 0) (two_apart keys i n k.differ b h other))

key_within : {T : Type 0} (slots : List (Option T)) (key : ℕ) → IsSome (get_or slots key None) → key < length slots
key_within [] zero h = absurd (cc)
key_within [] (suc key) h = absurd (cc)
key_within (o ∷ slots) zero h = omega arith
key_within (o ∷ slots) (suc key) h = let r = key_within slots key h in omega (arith, r)

pub with_value_updates : {T : Type 0} (s : Slab T) (key : ℕ) (v : T) → ContainsKey s key → Updates s (with_value s key v) key (Some v)
with_value_updates s key v held =
    record {
      changed = get_or-set_same s.slots key (Some v) None (key_within s.slots key held);
      others = λ other apart. get_or-set_other s.slots key other (Some v) None apart;
    }

-- ---- ranks
-- the rank of the n-th key is n
pub rank_at : (keys : List ℕ) (n key : ℕ) → AllPairs (λ j k. j ≢ k) keys → n < length keys → get_or keys n 0 ≡ key → rank_of keys key ≡ n
rank_at keys n key differ at here =
    position_or_len_is (λ k. k == key) keys n 0 (omega arith)
    (λ k before. ne_eqb (get_or keys k 0) key (λ e. differ k n 0 before at (e ∙ sym here)))
    (λ _. eq-eqb (get_or keys n 0) key here)

-- a key that isn't in the list
pub rank_missing : (keys : List ℕ) (key : ℕ) → position (λ k. k == key) keys ≡ None → rank_of keys key ≡ length keys
rank_missing keys key e = by (ltb (rank_of keys key) (length keys)) refl e
  where
    by : (b : Bool) → ltb (rank_of keys key) (length keys) ≡ b → cond b (Some (rank_of keys key)) None ≡ None → rank_of keys key ≡ length keys
    by true t f = absurd (cc)
    by false t f = let most = prefix_len-le-length (λ k. not (k == key)) keys in let least = ltb-false (rank_of keys key) (length keys) t in omega (arith, most, least)

-- one more key
pub rank_push : (keys : List ℕ) (new key : ℕ) → rank_of keys key < length keys → rank_of (keys ++ new ∷ []) key ≡ rank_of keys key
rank_push keys new key there =
    let few : (rank_of keys key == length keys) ≡ false = ne_eqb (rank_of keys key) (length keys) (λ e. omega (arith, e, there)) in
    position_or_len_push (λ k. k == key) keys new ∙ ap (λ b. cond b (length keys + cond (new == key) 0 1) (rank_of keys key)) few

-- one key less: the ranks after it are lowered by one
pub rank_remove : (keys : List ℕ) (n key : ℕ) → n < length keys → AllPairs (λ j k. j ≢ k) keys → rank_of keys key < length keys → rank_of keys key ≢ n
    → rank_of (remove keys n) key ≡ lowered n (rank_of keys key)
rank_remove keys n key at differ there other =
    let here : get_or keys (rank_of keys key) 0 ≡ key = eqb-true (get_or keys (rank_of keys key) 0) key (passes_at_first (λ k. k == key) keys 0 there) in
    let fewer = length-remove keys n at in
    rank_at (remove keys n) (lowered n (rank_of keys key)) key
    (all_pairs_remove (λ i j. i ≢ j) keys n at differ)
    (lowered_fits n (rank_of keys key) (length (remove keys n)) (omega (arith, fewer, at)) (omega (arith, fewer, there)) other)
    (get_or-lowered keys n (rank_of keys key) 0 at other ∙ here)

-- the n-th key is the one whose rank is n
pub same_rank : (keys : List ℕ) (n here key : ℕ) → AllPairs (λ j k. j ≢ k) keys → n < length keys → get_or keys n 0 ≡ here → (rank_of keys key == n) ≡ (key == here)
same_rank keys n here key differ at is = by (key == here) refl
  where
    by : (b : Bool) → (key == here) ≡ b → (rank_of keys key == n) ≡ b
    by true e =
        let same : key ≡ here = eqb-true key here e in
        eq-eqb (rank_of keys key) n (rank_at keys n key differ at (is ∙ sym same))
    by false e = ne_eqb (rank_of keys key) n (λ r.
        let there : rank_of keys key < length keys = omega (arith, r, at) in
        let found : get_or keys (rank_of keys key) 0 ≡ key = eqb-true (get_or keys (rank_of keys key) 0) key (passes_at_first (λ k. k == key) keys 0 there) in
        eqb-false key here e (sym found ∙ ap (λ i. get_or keys i 0) r ∙ is))
