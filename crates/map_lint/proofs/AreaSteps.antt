-- The sums of areas, as one more edge or line is added.
use Rattle.std.proofs.Common.{◌≡◌, ◌≢◌, ℕ, ◌+◌, ◌*◌, ◌^◌, ◌<◌, ◌≤◌, Bool, true, false, cond, eqb, List, [], ◌∷◌, ◌++◌, length, get_or, set, take, flat_map, fold, Some, ℤ, pos, neg_ℤ, ◌+ℤ◌, ◌≤ℤ◌, subst, sym, ap, ◌∙◌, ⊎_elim, arith}
use Rattle.std.specs.List.{slice_get}
use Rattle.std.proofs.lemmas.Bool.{cases_eq, eq-eqb, ne_eqb}
use Rattle.std.specs.Prelude.{FitsSigned}
use Rattle.std.specs.Int.{w128}
use Rattle.std.proofs.lemmas.Int.{ints}
use Rattle.std.proofs.lemmas.List.{append-nil, take_more, length-set, get_or-set_same, get_or-set_other}
use Rattle.std.proofs.lemmas.List.Concat.{flat_map-append}
use Rattle.std.proofs.lemmas.List.Sums.{fold-append}
use Rattle.std.proofs.lemmas.Option.{slice_get_within, get_or_from_slice_get}
use Rattle.lump_records.specs.declared.records.Line.{Line}
use Rattle.map_tables.specs.Tables.{Tables}
use Rattle.map_checks.specs.Corners.{Edge, edges_of_line}
use Rattle.map_lint.specs.Areas.{edge_area, part_in}
use Rattle.map_lint.specs.Tallies.{IsNear, AreWithin, AddsArea, AddsAreas, AreSums}

plus_zero : (z : ℤ) → z ≡ z +ℤ pos 0
plus_zero z = omega (arith, ints)

near_by : (k : ℕ) (x y p : ℤ) → y ≡ x +ℤ p → neg_ℤ (pos k) ≤ℤ p → p ≤ℤ pos k → IsNear k x y
near_by k x y p is low high = record { low = omega (arith, ints); high = omega (arith, ints) }

near_both : (k j n : ℕ) (x y z : ℤ) → IsNear k x y → IsNear j y z → k + j ≤ n → IsNear n x z
near_both k j n x y z a b h = record { low = omega (arith, ints, a.low, b.low); high = omega (arith, ints, a.high, b.high) }

near_weaker : (k n : ℕ) (x y : ℤ) → IsNear k x y → k ≤ n → IsNear n x y
near_weaker k n x y a h = record { low = omega (arith, ints, a.low); high = omega (arith, ints, a.high) }

-- a choice of a bounded number and 0 is bounded
chosen-low : (b : Bool) (k : ℕ) (a : ℤ) → neg_ℤ (pos k) ≤ℤ a → neg_ℤ (pos k) ≤ℤ cond b a (pos 0)
chosen-low true k a h = h
chosen-low false k a h = omega (arith, ints)

chosen-high : (b : Bool) (k : ℕ) (a : ℤ) → a ≤ℤ pos k → cond b a (pos 0) ≤ℤ pos k
chosen-high true k a h = h
chosen-high false k a h = omega (arith, ints)

module _ (m : Tables) (e : Edge) (old : List ℤ) (k : ℕ) (a : ℤ) (at : k ≡ e.sector) (is : a ≡ edge_area m.vertices e.from e.to) (within : k < length old) where
  sum_here : (s : ℕ) → s ≡ k → get_or (set old k (get_or old k (pos 0) +ℤ a)) s (pos 0) ≡ get_or old s (pos 0) +ℤ part_in m s e
  sum_here s same =
      ap (λ j. get_or (set old k (get_or old k (pos 0) +ℤ a)) j (pos 0)) same
      ∙ get_or-set_same old k (get_or old k (pos 0) +ℤ a) (pos 0) within
      ∙ ap (λ j. get_or old j (pos 0) +ℤ a) (sym same)
      ∙ ap (λ z. get_or old s (pos 0) +ℤ z)
      (is ∙ ap (λ b. cond b (edge_area m.vertices e.from e.to) (pos 0)) (sym (eq-eqb e.sector s (sym (same ∙ at)))))

  sum_there : (s : ℕ) → s ≢ k → get_or (set old k (get_or old k (pos 0) +ℤ a)) s (pos 0) ≡ get_or old s (pos 0) +ℤ part_in m s e
  sum_there s apart =
      get_or-set_other old k s (get_or old k (pos 0) +ℤ a) (pos 0) apart
      ∙ plus_zero (get_or old s (pos 0))
      ∙ ap (λ b. get_or old s (pos 0) +ℤ cond b (edge_area m.vertices e.from e.to) (pos 0))
      (sym (ne_eqb e.sector s (λ same. apart (sym (at ∙ same)))))

  -- what one edge adds is added
  pub adds_one : neg_ℤ (pos (2 ^ 48)) ≤ℤ a → a ≤ℤ pos (2 ^ 48) → AddsArea m e old (set old k (get_or old k (pos 0) +ℤ a))
  adds_one low high =
      let sums : (s : ℕ) → get_or (set old k (get_or old k (pos 0) +ℤ a)) s (pos 0) ≡ get_or old s (pos 0) +ℤ part_in m s e =
      λ s. ⊎_elim (λ same. sum_here s same) (λ apart. sum_there s apart) (cases_eq s k) in
      record {
        count = length-set old k (get_or old k (pos 0) +ℤ a);
        sums = sums;
        near = λ s.
            near_by (2 ^ 48) (get_or old s (pos 0)) (get_or (set old k (get_or old k (pos 0) +ℤ a)) s (pos 0)) (part_in m s e) (sums s)
            (chosen-low (eqb e.sector s) (2 ^ 48) (edge_area m.vertices e.from e.to) (rw is at low))
            (chosen-high (eqb e.sector s) (2 ^ 48) (edge_area m.vertices e.from e.to) (rw is at high));
      }

-- the two numbers that an edge's step adds, and their sum, fit
pub step_fits : (x y : ℤ) → IsNear (2 ^ 101) (pos 0) x → neg_ℤ (pos (2 ^ 48)) ≤ℤ y → y ≤ℤ pos (2 ^ 48)
    → FitsSigned w128 x × FitsSigned w128 y × FitsSigned w128 (x +ℤ y)
step_fits x y n low high =
    (omega (arith, ints, n.low, n.high), omega (arith, ints), omega (arith, ints, n.low, n.high))

-- the same, if the old sum was read
pub adds_read : (m : Tables) (e : Edge) (old : List ℤ) (k : ℕ) (x y : ℤ) → k ≡ e.sector → x ≡ get_or old k (pos 0)
    → y ≡ edge_area m.vertices e.from e.to → neg_ℤ (pos (2 ^ 48)) ≤ℤ y → y ≤ℤ pos (2 ^ 48) → k < length old
    → AddsArea m e old (set old k (x +ℤ y))
adds_read m e old k x y at read is low high within =
    subst (λ (z : ℤ). AddsArea m e old (set old k (z +ℤ y))) (sym read) (adds_one m e old k y at is within low high)

-- a line with one edge
pub adds_single : (m : Tables) (e : Edge) (old new : List ℤ) → AddsArea m e old new → AddsAreas m (e ∷ []) old new
adds_single m e old new a = record {
  count = a.count;
  sums = a.sums;
  near = λ s. near_weaker (2 ^ 48) (2 ^ 49) (get_or old s (pos 0)) (get_or new s (pos 0)) (a.near s) (omega arith);
}

-- a line with two
pub adds_pair : (m : Tables) (e f : Edge) (old mid new : List ℤ) → AddsArea m e old mid → AddsArea m f mid new → AddsAreas m (e ∷ f ∷ []) old new
adds_pair m e f old mid new a b = record {
  count = b.count ∙ a.count;
  sums = λ s. b.sums s ∙ ap (λ z. z +ℤ part_in m s f) (a.sums s);
  near = λ s.
      near_both (2 ^ 48) (2 ^ 48) (2 ^ 49) (get_or old s (pos 0)) (get_or mid s (pos 0)) (get_or new s (pos 0)) (a.near s) (b.near s) (omega arith);
}

-- there is still room after one edge
pub within_after : (m : Tables) (e : Edge) (old new : List ℤ) → AreWithin (2 ^ 100) old → AddsArea m e old new → AreWithin (2 ^ 101) new
within_after m e old new w a = record {
  near = λ s.
      near_both (2 ^ 100) (2 ^ 48) (2 ^ 101) (pos 0) (get_or old s (pos 0)) (get_or new s (pos 0)) (w.near s) (a.near s) (omega arith);
}

pub within_weaker : (k n : ℕ) (sums : List ℤ) → AreWithin k sums → k ≤ n → AreWithin n sums
within_weaker k n sums w h = record { near = λ s. near_weaker k n (pos 0) (get_or sums s (pos 0)) (w.near s) h }

edges_more : (m : Tables) (n : ℕ) (l : Line) → slice_get m.lines n ≡ Some l
    → flat_map (edges_of_line m) (take (n + 1) m.lines) ≡ flat_map (edges_of_line m) (take n m.lines) ++ edges_of_line m l
edges_more m n l is =
    ap (flat_map (edges_of_line m)) (take_more m.lines n l (slice_get_within m.lines n l is) ∙ ap (λ x. take n m.lines ++ x ∷ []) (get_or_from_slice_get m.lines n l l is))
    ∙ flat_map-append (edges_of_line m) (take n m.lines) (l ∷ [])
    ∙ ap (λ r. flat_map (edges_of_line m) (take n m.lines) ++ r) (append-nil (edges_of_line m l))

-- one more line is added
pub sums_more : (m : Tables) (n : ℕ) (l : Line) → slice_get m.lines n ≡ Some l → (old new : List ℤ)
    → AreSums m n old → AddsAreas m (edges_of_line m l) old new → AreSums m (n + 1) new
sums_more m n l is old new t a = record {
  count = a.count ∙ t.count;
  sums = λ s.
      let add = λ (sum : ℤ) (e : Edge). sum +ℤ part_in m s e in
      a.sums s
      ∙ ap (λ z. fold add z (edges_of_line m l)) (t.sums s)
      ∙ sym (ap (fold add (pos 0)) (edges_more m n l is) ∙ fold-append add (pos 0) (flat_map (edges_of_line m) (take n m.lines)) (edges_of_line m l));
  within = record {
    near = λ s.
        near_both (2 ^ 49 * n) (2 ^ 49) (2 ^ 49 * (n + 1)) (pos 0) (get_or old s (pos 0)) (get_or new s (pos 0)) (t.within.near s) (a.near s) (omega arith);
  };
}
