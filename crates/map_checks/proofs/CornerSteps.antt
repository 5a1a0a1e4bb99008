-- One corner's counts, changed in a map of counts.
use Rattle.std.proofs.Common.{◌≡◌, ℕ, ◌+◌, Bool, true, false, cond, eqb, ◌&&◌, Some, unwrap_or, refl, sym, ap, ◌∙◌, ⊎_elim, arith, add-zero}
use Rattle.std.specs.declared.cmp.Ordering.{Ordering}
use Rattle.std.specs.declared.cmp.Ordering.TheVariants.{Less, Equal, Greater}
use Rattle.std.specs.Ordering.{nat_cmp, ordering_then, is_eq}
use Rattle.std.specs.BTreeMap.{BTreeMap, is_at, Updates, get}
use Rattle.std.proofs.lemmas.Bool.{cases_Bool, and_parts, eqb-true}
use Rattle.std.proofs.lemmas.Bool.Decides.{nat_tests}
use Rattle.map_checks.specs.declared.corners.Degrees.{Degrees}
use Rattle.map_checks.specs.Tallies.{corner_cmp, same_corner, no_degrees, degrees_of, Leaves, Reaches}

is_eq-then : (a b : Ordering) → is_eq (ordering_then a b) ≡ (is_eq a && is_eq b)
is_eq-then Less b = refl
is_eq-then Equal b = refl
is_eq-then Greater b = refl

is_eq-nat_cmp : (a b : ℕ) → is_eq (nat_cmp a b) ≡ eqb a b
is_eq-nat_cmp a b = grind (arith, nat_tests)

pub is_at-corner : (a b : ℕ × ℕ) → is_at (corner_cmp a) b ≡ same_corner a b
is_at-corner a b =
    is_eq-then (nat_cmp a.0 b.0) (nat_cmp a.1 b.1) ∙ ap (λ t. t && is_eq (nat_cmp a.1 b.1)) (is_eq-nat_cmp a.0 b.0)
    ∙ ap (λ t. eqb a.0 b.0 && t) (is_eq-nat_cmp a.1 b.1)

pub same_corner-true : (a b : ℕ × ℕ) → same_corner a b ≡ true → a ≡ b
same_corner-true a b e =
    let p = and_parts (eqb a.0 b.0) (eqb a.1 b.1) e in
    let left = eqb-true a.0 b.0 p.0 in
    let right = eqb-true a.1 b.1 p.1 in
    λ i. (left i, right i)

module _ (m n : BTreeMap (ℕ × ℕ) Degrees) (corner : ℕ × ℕ) (d : Degrees) (h : Updates corner_cmp m n corner (Some d)) where
  after : (q : ℕ × ℕ) → degrees_of n q ≡ unwrap_or (cond (same_corner corner q) (Some d) (get corner_cmp m q)) no_degrees
  after q =
      ap (λ o. unwrap_or o no_degrees) (h.0 q)
      ∙ ap (λ t. unwrap_or (cond t (Some d) (get corner_cmp m q)) no_degrees) (is_at-corner corner q)

  here : (q : ℕ × ℕ) → same_corner corner q ≡ true → degrees_of n q ≡ d
  here q e = after q ∙ ap (λ t. unwrap_or (cond t (Some d) (get corner_cmp m q)) no_degrees) e

  elsewhere : (q : ℕ × ℕ) → same_corner corner q ≡ false → degrees_of n q ≡ degrees_of m q
  elsewhere q e = after q ∙ ap (λ t. unwrap_or (cond t (Some d) (get corner_cmp m q)) no_degrees) e

  -- a field of the counts, which is greater by one at the corner
  pub steps : (field : Degrees → ℕ) (by : ℕ) → field d ≡ field (degrees_of m corner) + by → (q : ℕ × ℕ)
      → field (degrees_of n q) ≡ field (degrees_of m q) + cond (same_corner corner q) by 0
  steps field by is q =
      ⊎_elim
      (λ e.
      let to = ap field (here q e) in
      let from = ap (λ x. field (degrees_of m x)) (same_corner-true corner q e) in
      rw e (to ∙ is ∙ ap (λ x. x + by) from))
      (λ e. let to = ap field (elsewhere q e) in rw e (omega (arith, to)))
      (cases_Bool (same_corner corner q))

cond_zero : (b : Bool) (n : ℕ) → n + cond b 0 0 ≡ n
cond_zero true n = add-zero n
cond_zero false n = add-zero n

pub leaves_step : (m n : BTreeMap (ℕ × ℕ) Degrees) (corner : ℕ × ℕ) (d : Degrees) → d ≡ degrees_of m corner
    → Updates corner_cmp m n corner (Some (record d { outgoing = d.outgoing + 1 })) → Leaves m n corner
leaves_step m n corner d is h = record {
  outgoing = steps m n corner _ h (λ x. x.outgoing) 1 (ap (λ x. x.outgoing + 1) is);
  incoming = λ q.
      steps m n corner _ h (λ x. x.incoming) 0 (ap (λ x. x.incoming) is ∙ sym (add-zero _)) q ∙ cond_zero (same_corner corner q) _;
}

pub reaches_step : (m n : BTreeMap (ℕ × ℕ) Degrees) (corner : ℕ × ℕ) (d : Degrees) → d ≡ degrees_of m corner
    → Updates corner_cmp m n corner (Some (record d { incoming = d.incoming + 1 })) → Reaches m n corner
reaches_step m n corner d is h = record {
  outgoing = λ q.
      steps m n corner _ h (λ x. x.outgoing) 0 (ap (λ x. x.outgoing) is ∙ sym (add-zero _)) q ∙ cond_zero (same_corner corner q) _;
  incoming = steps m n corner _ h (λ x. x.incoming) 1 (ap (λ x. x.incoming + 1) is);
}
