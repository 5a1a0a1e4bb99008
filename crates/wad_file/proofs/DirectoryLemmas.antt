-- What is read of a directory.
use Rattle.std.proofs.Common.{◌≡◌, ◌∙◌, refl, ap, ℕ, zero, suc, ◌+◌, ◌<◌, ◌-◌, Bool, true, false, not, ◌&&◌, List, Some, arith}
use Rattle.wad_file.specs.Directory.{are_inside, entry, entry_has_name, is_outside, last_named}

pub and_parts : (a b : Bool) → (a && b) ≡ true → (a ≡ true) × (b ≡ true)
and_parts true b e = (refl, e)
and_parts false b e = absurd (cc)

not_true : (b : Bool) → not b ≡ true → b ≡ false
not_true true e = absurd (cc)
not_true false e = refl

pub add_zero : (k : ℕ) → k + 0 ≡ k
add_zero k = omega arith

-- each of the lumps stands in the file
pub inside_at : (wad : List ℕ) (k n i : ℕ) → are_inside wad k n ≡ true → i < n → is_outside wad (entry wad (k + i)) ≡ false
inside_at wad k zero i e h = absurd (omega arith)
inside_at wad k (suc n) zero e h =
    let p = and_parts (not (is_outside wad (entry wad k))) (are_inside wad (k + 1) n) e in
    let q = not_true (is_outside wad (entry wad k)) p.0 in
    let z : k + 0 ≡ k = add_zero k in
    rw z q
inside_at wad k (suc n) (suc i) e h =
    let p = and_parts (not (is_outside wad (entry wad k))) (are_inside wad (k + 1) n) e in
    let s : k + suc i ≡ k + 1 + i = omega arith in
    rw s (inside_at wad (k + 1) n i p.1 (omega arith))

-- ---- one entry more

pub inside_step :
    (wad : List ℕ) (from n count : ℕ) → n < count → are_inside wad (from + n) (count - n) ≡ (not (is_outside wad (entry wad (from + n))) && are_inside wad (from + (n + 1)) (count - (n + 1)))
inside_step wad from n count h =
    let left : count - n ≡ suc (count - (n + 1)) = omega arith in
    let next : from + n + 1 ≡ from + (n + 1) = omega arith in
    ap (are_inside wad (from + n)) left
    ∙ ap (λ (k : ℕ). not (is_outside wad (entry wad (from + n))) && are_inside wad k (count - (n + 1))) next

pub last_found : (wad name : List ℕ) (count behind k : ℕ) → behind < count → k ≡ count - 1 - behind → entry_has_name wad name k ≡ true → last_named wad name (count - behind) ≡ Some k
last_found wad name count behind k h e y =
    let next : count - behind ≡ suc k = omega (arith, e) in
    ap (last_named wad name) next ∙ rw y refl

pub last_below :
    (wad name : List ℕ) (count behind k : ℕ) → behind < count → k ≡ count - 1 - behind → entry_has_name wad name k ≡ false
    → last_named wad name (count - behind) ≡ last_named wad name (count - (behind + 1))
last_below wad name count behind k h e n =
    let next : count - behind ≡ suc k = omega (arith, e) in
    let rest : k ≡ count - (behind + 1) = omega (arith, e) in
    ap (last_named wad name) next ∙ found ∙ ap (last_named wad name) rest
  where
    found : last_named wad name (suc k) ≡ last_named wad name k
    found = rw n refl
