-- Runs of numbers, and the first of them that passes a test.
use Rattle.std.proofs.Common.{◌≡◌, ◌∙◌, refl, sym, ap, subst, cond, ℕ, suc, ◌+◌, ◌-◌, ◌<◌, ◌≤◌, ◌⊎◌, inl, inr, Bool, true, false, List, [], ◌∷◌, ◌++◌, filter, map, zero-add, arith, Some, None}
use Rattle.std.specs.Prelude.{◌≢◌, ◌==◌, All, find}
use Rattle.std.specs.List.{range_with_len}
use Rattle.std.proofs.lemmas.Bool.{cases_lt}
use Rattle.std.proofs.lemmas.Bool.Decides.{eqb_tells}
use Rattle.std.proofs.lemmas.List.{append-nil, map-append, map-id}
use Rattle.std.proofs.lemmas.List.Elements.{All-push}
use Rattle.std.proofs.lemmas.List.FromFn.{filter_of_map_range_with_len_more}
use Rattle.wad_levels.specs.Entries.{IsLevelAt, IsRunEnd, is_level}
use Rattle.wad_levels.specs.declared.entries.LevelEntries.{LevelEntries}

-- the first of the numbers from k on, or of those behind k
find_step :
    (p : ℕ → Bool) (k end : ℕ) → k < end
    → find p (range_with_len k (end - k)) ≡ cond (p k) (Some k) (find p (range_with_len (k + 1) (end - (k + 1))))
find_step p k end h =
    let left : end - k ≡ suc (end - (k + 1)) = omega arith in
    ap (λ n. find p (range_with_len k n)) left

-- k passes
pub found_here :
    (p : ℕ → Bool) (k end : ℕ) → k < end → p k ≡ true → find p (range_with_len k (end - k)) ≡ Some k
found_here p k end h passes = find_step p k end h ∙ rw passes refl

-- k doesn't
pub found_behind :
    (p : ℕ → Bool) (k end : ℕ) → k < end → p k ≡ false
    → find p (range_with_len k (end - k)) ≡ find p (range_with_len (k + 1) (end - (k + 1)))
found_behind p k end h fails = find_step p k end h ∙ rw fails refl

-- there is no number left
pub found_none : (p : ℕ → Bool) (k end : ℕ) → end ≤ k → find p (range_with_len k (end - k)) ≡ None
found_none p k end h =
    let none : end - k ≡ 0 = omega arith in
    rw none refl

-- the numbers up to n + 1 that pass a test
pub passing_more : (p : ℕ → Bool) (n : ℕ) → filter p (range_with_len 0 (n + 1)) ≡ filter p (range_with_len 0 n) ++ cond (p n) (n ∷ []) []
passing_more p n =
    sym (ap (filter p) (map-id _)) ∙ filter_of_map_range_with_len_more p (λ x. x) 0 n n (zero-add n)
    ∙ ap (λ l. filter p l ++ cond (p n) (n ∷ []) []) (map-id _)

-- the run ends at the first number that doesn't pass
pub run_ends :
    (p : ℕ → Bool) (from count k : ℕ) → from ≤ k → k < count
    → ((j : ℕ) → from ≤ j → j < k → p j ≡ true) → p k ≡ false → IsRunEnd p from count k
run_ends p from count k low high before fails = record { behind = low; among = omega arith; passing = before; ended = λ _. fails }

-- the run goes to the end
pub run_to_end :
    (p : ℕ → Bool) (from count k : ℕ) → from ≤ count → count ≤ k
    → ((j : ℕ) → from ≤ j → j < k → p j ≡ true) → IsRunEnd p from count count
run_to_end p from count k low high before =
    record {
      behind = low;
      among = omega arith;
      passing = λ j a b. before j a (omega arith);
      ended = λ h. absurd (omega arith);
    }

-- ---- the levels so far
-- they are those of the markers among the first k entries
abbrev pub AreFirst : List ℕ → ℕ → List LevelEntries → Type 0
AreFirst wad k levels =
    (map (λ l. l.marker) levels ≡ filter (is_level wad) (range_with_len 0 k)) × All (IsLevelAt wad) levels

-- the k-th entry is a marker
pub first_with :
    (wad : List ℕ) (k : ℕ) (levels new : List LevelEntries) (x : LevelEntries) → AreFirst wad k levels
    → new ≡ levels ++ x ∷ [] → x.marker ≡ k → is_level wad k ≡ true → IsLevelAt wad x → AreFirst wad (k + 1) new
first_with wad k levels new x so_far e number passes level =
    let f : LevelEntries → ℕ = λ (l : LevelEntries). l.marker in
    let found = filter (is_level wad) (range_with_len 0 k) in (
      ap (map f) e ∙ map-append f levels (x ∷ []) ∙ ap (λ (ns : List ℕ). ns ++ x.marker ∷ []) so_far.0
          ∙ ap (λ (n : ℕ). found ++ n ∷ []) number
          ∙ sym (passing_more (is_level wad) k ∙ ap (λ (b : Bool). found ++ cond b (k ∷ []) []) passes),
      subst (All (IsLevelAt wad)) (sym e) (All-push (IsLevelAt wad) levels x so_far.1 level),
    )

-- the k-th entry is none
pub first_without :
    (wad : List ℕ) (k : ℕ) (levels : List LevelEntries) → AreFirst wad k levels → is_level wad k ≡ false
    → AreFirst wad (k + 1) levels
first_without wad k levels so_far fails =
    let found = filter (is_level wad) (range_with_len 0 k) in (
      so_far.0 ∙ sym (append-nil found)
          ∙ sym (passing_more (is_level wad) k ∙ ap (λ (b : Bool). found ++ cond b (k ∷ []) []) fails),
      so_far.1,
    )

-- one number more passes
pub run_more :
    (p : ℕ → Bool) (from k : ℕ) → ((j : ℕ) → from ≤ j → j < k → p j ≡ true) → p k ≡ true
    → (j : ℕ) → from ≤ j → j < k + 1 → p j ≡ true
run_more p from k before here j low high = by (cases_lt j k)
  where
    by : (j < k) ⊎ (k ≤ j) → p j ≡ true
    by (inl h) = before j low h
    by (inr h) = let e : j ≡ k = omega arith in rw e here

-- the test of two numbers that differ fails
pub differ-eqb : (a b : ℕ) → a ≢ b → (a == b) ≡ false
differ-eqb a b ne = by (eqb_tells a b)
  where
    by : (((a == b) ≡ true) × (a ≡ b)) ⊎ (((a == b) ≡ false) × (a ≢ b)) → (a == b) ≡ false
    by (inl h) = absurd (ne h.1)
    by (inr h) = h.0
