-- What is kept of a list in another order is the same, in another order; and what an order of a list's numbers gives.
use Rattle.std.proofs.Common.{◌≡◌, refl, sym, ap, ◌∙◌, subst, ℕ, zero, suc, ◌+◌, ◌<◌, ◌≤◌, List, [], ◌∷◌, ◌++◌, length, drop, map, get_or, set, Option, Some, None, Bool, false, ◌^◌, arith, IsPermutation, swap}
use Rattle.std.specs.Prelude.{filter_map, nat_eq, if◌then◌else◌, Vec}
use Rattle.std.specs.List.{cons_option, range_with_len}
use Rattle.std.proofs.lemmas.List.Elements.{All-get_or, All-from_get_or}
use Rattle.std.proofs.lemmas.List.FromFn.{length-range_with_len, get_or-range_with_len}
use Rattle.std.proofs.lemmas.List.Sorted.{IsPermutation-refl, IsPermutation-cons, IsPermutation-trans, IsPermutation-middle, IsPermutation-keeps, IsPermutation-map, All-permutation}
use Rattle.std.proofs.lemmas.Simd.{pick_l_whole}
use Rattle.std.proofs.lemmas.Bool.{ne_eqb}
use Rattle.std.proofs.lemmas.List.Elements.{filter_map-append}
use Rattle.std.proofs.lemmas.List.{append-nil, at_drop_all, get_or-map, length-append}
use Rattle.std.specs.Global.{Global}
use Rattle.lump_records.specs.declared.records.Vertex.{Vertex}
use Rattle.tree_pieces.specs.declared.edge.Edge.{Edge}
use Rattle.tree_pieces.specs.declared.piece.Piece.{Piece}
use Rattle.tree_pieces.specs.declared.piece.Ends.{Ends}
use Rattle.tree_pieces.specs.Pieces.{first_end, last_end, ends_of}
use Rattle.tree_choice.specs.Columns.{AreEnds}
use Rattle.tree_choice.proofs.Ranges.{one_number_more}
use Rattle.tree_nodes.specs.Placed.{HasNotes, part_number}

module _ {X Y : Type 0} (f : X → Option Y) where
  -- one more on both sides
  onto : (o : Option Y) (us vs : List Y) → IsPermutation us vs → IsPermutation (cons_option o us) (cons_option o vs)
  onto None us vs h = h
  onto (Some y) us vs h = IsPermutation-cons y us vs h

  -- two in either order
  crossed : (o q : Option Y) (us : List Y) → IsPermutation (cons_option o (cons_option q us)) (cons_option q (cons_option o us))
  crossed None q us = IsPermutation-refl (cons_option q us)
  crossed (Some y) None us = IsPermutation-refl (y ∷ us)
  crossed (Some y) (Some z) us = IsPermutation-middle (y ∷ []) z us

  -- the first element changes places with one behind it
  first_swapped : (x : X) (xs : List X) (k : ℕ) (d : X) → k < length xs → IsPermutation (filter_map f (x ∷ xs)) (filter_map f (get_or xs k d ∷ set xs k x))
  first_swapped x [] k d h = absurd (omega arith)
  first_swapped x (z ∷ xs) zero d h = crossed (f x) (f z) (filter_map f xs)
  first_swapped x (z ∷ xs) (suc k) d h =
      IsPermutation-trans _ _ _ (crossed (f x) (f z) (filter_map f xs))
      (IsPermutation-trans _ _ _ (onto (f z) _ _ (first_swapped x xs k d (omega arith)))
      (crossed (f z) (f (get_or xs k d)) (filter_map f (set xs k x))))

  -- two elements change places
  swapped : (xs : List X) (i j : ℕ) (d : X) → i < length xs → j < length xs → IsPermutation (filter_map f xs) (filter_map f (set (set xs i (get_or xs j d)) j (get_or xs i d)))
  swapped [] i j d h k = absurd (omega arith)
  swapped (x ∷ xs) zero zero d h k = IsPermutation-refl (filter_map f (x ∷ xs))
  swapped (x ∷ xs) zero (suc j) d h k = first_swapped x xs j d (omega arith)
  swapped (x ∷ xs) (suc i) zero d h k = first_swapped x xs i d (omega arith)
  swapped (x ∷ xs) (suc i) (suc j) d h k = onto (f x) _ _ (swapped xs i j d (omega arith) (omega arith))

  one_step : (us : List Y) (xs : List X) (i j : ℕ) → i < length xs → j < length xs → IsPermutation us (filter_map f xs) → IsPermutation us (filter_map f (swap xs i j))
  one_step us [] i j p q h = absurd (omega arith)
  one_step us (x ∷ xs) i j p q h = IsPermutation-trans _ _ _ h (swapped (x ∷ xs) i j x p q)

  pub parts_permuted : (xs ys : List X) → IsPermutation xs ys → IsPermutation (filter_map f xs) (filter_map f ys)
  parts_permuted xs ys = IsPermutation-keeps xs (λ l. IsPermutation (filter_map f xs) (filter_map f l)) (IsPermutation-refl (filter_map f xs))
      (λ l i j p q h. one_step (filter_map f xs) l i j p q h) ys

-- an order has only numbers of the list
pub in_order : (n i : ℕ) (order : List ℕ) → IsPermutation (range_with_len 0 n) order → i < length order → get_or order i 0 < n
in_order n i order h l =
    All-get_or (λ (k : ℕ). k < n) order i 0 l (All-permutation (λ (k : ℕ). k < n) (range_with_len 0 n) order h
    (All-from_get_or (λ (k : ℕ). k < n) (range_with_len 0 n) 0 below))
  where
    below : (k : ℕ) → k < length (range_with_len 0 n) → get_or (range_with_len 0 n) k 0 < n
    below k b = let m = length-range_with_len 0 n in let e = get_or-range_with_len 0 n k 0 (omega (arith, b, m)) in omega (arith, b, m, e)

-- the items of a list in an order of its numbers are its items, in another order
pub picked_permuted : {X : Type 0} (d : X) (xs : List X) (order : List ℕ) → IsPermutation (range_with_len 0 (length xs)) order
    → IsPermutation xs (map (λ (k : ℕ). get_or xs k d) order)
picked_permuted {X} d xs order h =
    let f = λ (k : ℕ). get_or xs k d in
    subst (λ (ys : List X). IsPermutation ys (map f order)) (pick_l_whole d xs (length xs) refl)
    (IsPermutation-map f (range_with_len 0 (length xs)) order h)

-- what is kept of the notes in an order is what is kept of them, in another order
kept_at : (f : ℕ → Option ℕ) (g : ℕ → ℕ) (ks : List ℕ) → filter_map (λ k. f (g k)) ks ≡ filter_map f (map g ks)
kept_at f g [] = refl
kept_at f g (k ∷ ks) = ap (cons_option (f (g k))) (kept_at f g ks)

pub kept_permuted : (f : ℕ → Option ℕ) (notes order : List ℕ) → IsPermutation (range_with_len 0 (length notes)) order
    → IsPermutation (filter_map f notes) (filter_map (λ k. f (get_or notes k 0)) order)
kept_permuted f notes order h =
    let at = λ (k : ℕ). get_or notes k 0 in
    subst (λ (ks : List ℕ). IsPermutation ks (filter_map (λ k. f (at k)) order))
    (kept_at f at (range_with_len 0 (length notes)) ∙ ap (filter_map f) (pick_l_whole 0 notes (length notes) refl))
    (parts_permuted (λ k. f (at k)) (range_with_len 0 (length notes)) order h)

pub kept_all : {X Y : Type 0} (f : X → Option Y) (xs : List X) (ys : List Y) (n : ℕ) → length xs ≤ n → ys ++ filter_map f (drop n xs) ≡ filter_map f xs → ys ≡ filter_map f xs
kept_all {X} {Y} f xs ys n h e = sym (append-nil ys) ∙ ap (λ (zs : List Y). ys ++ zs) (sym (at_drop_all (filter_map f) xs n h)) ∙ e

-- the ends of the piece of a number
abbrev pub made_ends : Vertex → Vertex → Ends
made_ends u v = record { first = u; last = v }

pub ends_at : (lines : List Edge) (ps : List Piece) (fs ls : List Vertex) (k : ℕ) (q : Piece) (v : Vertex) → k < length ps → AreEnds lines ps fs ls
    → made_ends (get_or fs k v) (get_or ls k v) ≡ ends_of lines (get_or ps k q)
ends_at lines ps fs ls k q v l h =
    let a : get_or fs k v ≡ first_end lines (get_or ps k q) = ap (λ (vs : List Vertex). get_or vs k v) h.firsts_are ∙ get_or-map (first_end lines) ps k q v l in
    let b : get_or ls k v ≡ last_end lines (get_or ps k q) = ap (λ (vs : List Vertex). get_or vs k v) h.lasts_are ∙ get_or-map (last_end lines) ps k q v l in
    ap (λ (x : Vertex). made_ends x (get_or ls k v)) a ∙ ap (made_ends (first_end lines (get_or ps k q))) b

-- ---- notes
-- the number of the next part is noted
pub next_noted : (before after : ℕ) → before < 2 ^ 31 → after ≡ before + 1 → range_with_len 0 after ≡ range_with_len 0 before ++ cons_option (part_number before) []
next_noted before after few one =
    ap (range_with_len 0) one ∙ one_number_more before ∙ ap (λ (o : Option ℕ). range_with_len 0 before ++ cons_option o []) (sym noted)
  where
    by_test : (b : Bool) → nat_eq before 4294967295 ≡ b → b ≡ false → part_number before ≡ Some before
    by_test b e f = ap (λ (x : Bool). if x then None else Some before) (e ∙ f)

    noted : part_number before ≡ Some before
    noted = by_test (nat_eq before 4294967295) refl (ne_eqb before 4294967295 (λ e. omega (arith, e, few)))

-- one note more
pub notes_more : (n before after note : ℕ) (old new : Vec ℕ Global) → new.items ≡ old.items ++ note ∷ []
    → range_with_len 0 after ≡ range_with_len 0 before ++ filter_map part_number (note ∷ []) → HasNotes n before old → HasNotes (n + 1) after new
notes_more n before after note old new e r h =
    record {
      each = ap length e ∙ length-append old.items (note ∷ []) ∙ ap (λ (k : ℕ). k + 1) h.each;
      numbers = ap (filter_map part_number) e ∙ filter_map-append part_number old.items (note ∷ [])
          ∙ ap (λ (ks : List ℕ). ks ++ filter_map part_number (note ∷ [])) h.numbers ∙ sym r;
    }

-- ---- how much is kept
kept_length : {X Y : Type 0} (f : X → Option Y) (xs : List X) → length (filter_map f xs) ≤ length xs
kept_length f [] = omega arith
kept_length {X} {Y} f (x ∷ xs) = by (f x) (kept_length f xs)
  where
    by : (o : Option Y) → length (filter_map f xs) ≤ length xs → length (cons_option o (filter_map f xs)) ≤ length (x ∷ xs)
    by None h = omega (arith, h)
    by (Some y) h = omega (arith, h)

pub kept_so_far : {X Y : Type 0} (f : X → Option Y) (xs : List X) (n : ℕ) (ys : List Y) → ys ++ filter_map f (drop n xs) ≡ filter_map f xs → length ys ≤ length xs
kept_so_far f xs n ys e =
    let a = length-append ys (filter_map f (drop n xs)) in
    let b = ap length e in
    let l = kept_length f xs in
    omega (arith, a, b, l)

pub kept_of_one : {X Y : Type 0} (f : X → Option Y) (x : X) (old new : List Y) → new ≡ old ++ filter_map f (x ∷ []) → length new ≤ length old + 1
kept_of_one f x old new e =
    let a = length-append old (filter_map f (x ∷ [])) in
    let b = ap length e in
    let l = kept_length f (x ∷ []) in
    omega (arith, a, b, l)
