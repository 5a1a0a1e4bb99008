-- Marks of columns, one more column or one more patch at a time.
use Rattle.std.proofs.Common.{◌≡◌, ℕ, ◌+◌, ◌<◌, ◌≤◌, Bool, true, false, cond, refl, ◌||◌, ◌&&◌, List, length, get_or, take, sym, ap, ◌∙◌, arith, MatchBool, pos, ◌+ℤ◌, zero-add}
use Rattle.std.specs.Prelude.{nat_le, nat_lt, int_le}
use Rattle.std.proofs.lemmas.Int.{ints}
use Rattle.std.proofs.lemmas.Bool.Decides.{nat_tests}
use Rattle.lump_textures.specs.declared.patch.Patch.{Patch}
use Rattle.lump_textures.specs.Marks.{AreFree, HasMarked, IsFree, IsMarked, MarksColumns}
use Rattle.lump_textures.specs.Patched.{patch_covers, is_patched, patches_over}
use Rattle.std.specs.List.{range_with_len}
use Rattle.std.proofs.lemmas.List.Elements.{All-from_get_or}
use Rattle.std.proofs.lemmas.List.Folds.{list_any_at, list_any_none}
use Rattle.std.proofs.lemmas.List.FromFn.{get_or-range_with_len, length-range_with_len}
use Rattle.std.proofs.lemmas.List.Sums.{sum_by_more, sum_by_more_le}

-- the columns from the first one up to the end are those up to where the marking stopped
pub all_marked : (old new : Bool) (first x end k : ℕ) → end ≤ x → (first ≤ end → x ≤ end) → (end ≤ first → x ≡ first)
    → new ≡ (old || (nat_le first k && nat_lt k x)) → new ≡ (old || (nat_le first k && nat_lt k end))
all_marked old new first x end k stopped within apart is = grind (arith, nat_tests)

module _ (width : ℕ) (p : Patch) (first end : ℕ) (old new : List Bool) (within : end ≤ width)
    (from : (x : ℕ) → x < width → nat_le first x ≡ int_le p.first (pos x))
    (to : (x : ℕ) → x < width → nat_le end x ≡ int_le (p.first +ℤ p.width) (pos x)) where
  -- the patch covers a column exactly if it is among those from the first one up to the end
  between : (x : ℕ) → x < width → patch_covers x p ≡ (nat_le first x && nat_lt x end)
  between x h =
      let f = from x h in
      let t = to x h in
      grind (arith, nat_tests, ints)

  -- what a marking of these columns says of the patch
  pub covered : (r : Bool) → MatchBool r (AreFree first end old new) (HasMarked first end old) → MatchBool r (IsFree width p old new) (IsMarked width p old)
  covered true a = record {
    free = λ x h is. let b = sym (between x h) ∙ is in a.free x (grind (arith, nat_tests)) (grind (arith, nat_tests));
    marked = λ x h. a.marked x ∙ ap (λ b. get_or old x false || b) (sym (between x h));
  }
  covered false a = record {
    column = a.column;
    within = omega (arith, a.before);
    covered = between a.column (omega (arith, a.before)) ∙ (let f = a.from in let t = a.before in grind (arith, nat_tests));
    marked = a.marked;
  }

-- a count of a marked column, or of one that isn't, as one patch more covers it or not
one_more : (n : ℕ) (old new b : Bool) → n ≡ cond old 1 0 → new ≡ (old || b) → (b ≡ true → old ≡ false) → n + cond b 1 0 ≡ cond new 1 0
one_more n true new true is now free = let bad : true ≡ false = free refl in cc
one_more n true new false is now free = omega (arith, is) ∙ ap (λ b. cond b 1 0) (sym now)
one_more n false new b is now free = ap (λ k. k + cond b 1 0) is ∙ zero-add (cond b 1 0) ∙ ap (λ b. cond b 1 0) (sym now)

-- a patch more, which covers no marked column
pub columns_more : (width : ℕ) (patches : List Patch) (i : ℕ) (d : Patch) → i < length patches → (old new : List Bool) → length new ≡ length old
    → MarksColumns width (take i patches) old → IsFree width (get_or patches i d) old new → MarksColumns width (take (i + 1) patches) new
columns_more width patches i d within old new count so_far free = record {
  count = count ∙ so_far.count;
  marked = λ x h.
      sum_by_more (λ p. cond (patch_covers x p) 1 0) patches i d within
      ∙ one_more (patches_over (take i patches) x) (get_or old x false) (get_or new x false) (patch_covers x (get_or patches i d)) (so_far.marked x h) (free.marked x h)
      (free.free x h);
}

-- more than one is
two : (n one more : ℕ) → one ≡ 1 → more ≡ 1 → one + more ≤ n → nat_lt 1 n ≡ true
two n one more is also below = grind (arith, nat_tests)

-- a patch that covers a marked column
pub covered_twice : (width : ℕ) (patches : List Patch) (i : ℕ) (d : Patch) → i < length patches → (old : List Bool)
    → MarksColumns width (take i patches) old → IsMarked width (get_or patches i d) old → is_patched width patches ≡ true
covered_twice width patches i d within old so_far twice =
    let x = twice.column in
    list_any_at (λ x. nat_lt 1 (patches_over patches x)) (range_with_len 0 width) x 0 (omega (arith, twice.within, length-range_with_len 0 width))
    (ap (λ x. nat_lt 1 (patches_over patches x)) (get_or-range_with_len 0 width x 0 twice.within ∙ zero-add x)
    ∙ two (patches_over patches x) (patches_over (take i patches) x) (cond (patch_covers x (get_or patches i d)) 1 0)
    (so_far.marked x twice.within ∙ ap (λ b. cond b 1 0) twice.marked) (ap (λ b. cond b 1 0) twice.covered)
    (sum_by_more_le (λ p. cond (patch_covers x p) 1 0) patches i d within))

-- no more than one is
no_two : (n : ℕ) (b : Bool) → n ≡ cond b 1 0 → nat_lt 1 n ≡ false
no_two n true is = grind (arith, nat_tests)
no_two n false is = grind (arith, nat_tests)

-- the columns are each covered by one patch at most
pub covered_once : (width : ℕ) (patches : List Patch) (marks : List Bool) → MarksColumns width patches marks → is_patched width patches ≡ false
covered_once width patches marks all =
    list_any_none (λ x. nat_lt 1 (patches_over patches x)) (range_with_len 0 width)
    (All-from_get_or (λ x. nat_lt 1 (patches_over patches x) ≡ false) (range_with_len 0 width) 0
    (λ i h.
    let within : i < width = omega (arith, h, length-range_with_len 0 width) in
    ap (λ x. nat_lt 1 (patches_over patches x)) (get_or-range_with_len 0 width i 0 within ∙ zero-add i)
    ∙ no_two (patches_over patches i) (get_or marks i false) (all.marked i within)))
