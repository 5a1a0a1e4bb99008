-- The image for a fill, byte by byte.
use Rattle.std.proofs.Common.{◌≡◌, ◌<◌, ◌≤◌, ◌+◌, ℕ, Bool, true, false, cond, List, [], ◌∷◌, ◌++◌, length, get_or, map, refl, sym, ◌∙◌, ap, arith}
use Rattle.std.specs.List.{count_by, range_with_len}
use Rattle.std.proofs.lemmas.List.FromFn.{get_or-map-range_with_len, length-map-range_with_len, map-range_with_len_more}
use Rattle.std.proofs.lemmas.List.Sums.{sum_by-append}
use Rattle.std.proofs.lemmas.Bool.Decides.{nat_tests}
use Rattle.store_disk.specs.Medium.{Medium, is_unsynced, IsImage}
use Rattle.store_disk.specs.Fill.{filled, left_at, stopped, unsynced_before}
use Rattle.store_disk.specs.declared.fill.Fill.{Fill}

map_itself : (xs : List ℕ) → map (λ x. x) xs ≡ xs
map_itself [] = refl
map_itself (x ∷ xs) = ap (λ (l : List ℕ). x ∷ l) (map_itself xs)

range_more : (n : ℕ) → range_with_len 0 (n + 1) ≡ range_with_len 0 n ++ n ∷ []
range_more n =
    sym (map_itself (range_with_len 0 (n + 1))) ∙ map-range_with_len_more (λ (x : ℕ). x) 0 n n (omega arith) ∙ ap (λ (l : List ℕ). l ++ n ∷ []) (map_itself (range_with_len 0 n))

count_more : (p : ℕ → Bool) (n : ℕ) → count_by p (range_with_len 0 (n + 1)) ≡ count_by p (range_with_len 0 n) + cond (p n) 1 0
count_more p n =
    ap (count_by p) (range_more n) ∙ sum_by-append (λ (x : ℕ). cond (p x) 1 0) (range_with_len 0 n) (n ∷ []) ∙ omega arith

module _ (m : Medium) (fill : Fill) (i : ℕ) where
  pub count_unsynced : is_unsynced m i ≡ true → unsynced_before m (i + 1) ≡ unsynced_before m i + 1
  count_unsynced un = count_more (is_unsynced m) i ∙ ap (λ (b : Bool). unsynced_before m i + cond b 1 0) un

  pub count_synced : is_unsynced m i ≡ false → unsynced_before m (i + 1) ≡ unsynced_before m i
  count_synced synced = count_more (is_unsynced m) i ∙ ap (λ (b : Bool). unsynced_before m i + cond b 1 0) synced ∙ omega arith

  pub push_unsynced : is_unsynced m i ≡ true → map (left_at m fill) (range_with_len 0 i) ++ filled m fill i ∷ [] ≡ map (left_at m fill) (range_with_len 0 (i + 1))
  push_unsynced un =
      let here : filled m fill i ≡ left_at m fill i = sym (ap (λ (b : Bool). cond b (filled m fill i) (get_or m.synced i 0)) un) in
      ap (λ (b : ℕ). map (left_at m fill) (range_with_len 0 i) ++ b ∷ []) here ∙ sym (map-range_with_len_more (left_at m fill) 0 i i (omega arith))

  pub push_synced : is_unsynced m i ≡ false → map (left_at m fill) (range_with_len 0 i) ++ get_or m.synced i 0 ∷ [] ≡ map (left_at m fill) (range_with_len 0 (i + 1))
  push_synced synced =
      let here : get_or m.synced i 0 ≡ left_at m fill i = sym (ap (λ (b : Bool). cond b (filled m fill i) (get_or m.synced i 0)) synced) in
      ap (λ (b : ℕ). map (left_at m fill) (range_with_len 0 i) ++ b ∷ []) here ∙ sym (map-range_with_len_more (left_at m fill) 0 i i (omega arith))

-- it's an image
module _ (m : Medium) (fill : Fill) (longest : Bool) where
  abbrev size : ℕ
  size = cond longest m.longest (length m.synced)

  length-stopped : length (stopped m fill longest) ≡ size
  length-stopped = length-map-range_with_len (left_at m fill) 0 size

  pub stopped_image : length m.synced ≤ m.longest → IsImage m (stopped m fill longest)
  stopped_image le =
      let least : length m.synced ≤ size = elim longest as (λ (b : Bool). length m.synced ≤ cond b m.longest (length m.synced)) [ true ↦ le | false ↦ omega arith ] in
      let greatest : size ≤ m.longest = elim longest as (λ (b : Bool). cond b m.longest (length m.synced) ≤ m.longest) [ true ↦ omega arith | false ↦ le ] in
      record {
        no_shorter = omega (arith, length-stopped, least);
        no_longer = omega (arith, length-stopped, greatest);
        same = λ i synced.
            let short : i < length m.synced = grind (arith, nat_tests, synced) in
            get_or-map-range_with_len (left_at m fill) 0 size i i 0 (omega (arith, short, least)) (omega arith)
            ∙ ap (λ (b : Bool). cond b (filled m fill i) (get_or m.synced i 0)) synced;
      }
