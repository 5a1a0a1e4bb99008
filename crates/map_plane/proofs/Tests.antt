-- What it means that a test holds, and how to show that it does.
use Rattle.std.proofs.Common.{◌≡◌, Bool, true, false, ◌&&◌, ◌||◌, not, refl, ◌⊎◌, inl, inr, ⊎_elim, ℤ, ◌≤ℤ◌, arith}
use Rattle.std.specs.Prelude.{int_le, int_lt, ◌<ℤ◌}
use Rattle.std.specs.Int.{int_min, int_max}
use Rattle.std.proofs.lemmas.Int.{ints, clamps}
use Rattle.map_plane.specs.Meeting.{is_under}

pub and_both : (a b : Bool) → (a && b) ≡ true → (a ≡ true) × (b ≡ true)
and_both true b h = (refl, h)
and_both false b h = cc

pub or_either : (a b : Bool) → (a || b) ≡ true → (a ≡ true) ⊎ (b ≡ true)
or_either true b h = inl refl
or_either false b h = inr h

pub or_left : (a b : Bool) → a ≡ true → (a || b) ≡ true
or_left true b h = refl
or_left false b h = cc

pub or_right : (a b : Bool) → b ≡ true → (a || b) ≡ true
or_right true b h = refl
or_right false b h = h

pub or_none : (a b : Bool) → (a || b) ≡ false → b ≡ false
or_none true b h = cc
or_none false b h = h

pub le_says : (a b : ℤ) → int_le a b ≡ true → a ≤ℤ b
le_says a b h = grind (arith, ints)

pub le_is : (a b : ℤ) → a ≤ℤ b → int_le a b ≡ true
le_is a b h = grind (arith, ints)

pub lt_says : (a b : ℤ) → int_lt a b ≡ true → a <ℤ b
lt_says a b h = grind (arith, ints)

pub both : (a b : Bool) → a ≡ true → b ≡ true → (a && b) ≡ true
both true b h k = k
both false b h k = cc

pub lt_is : (a b : ℤ) → a <ℤ b → int_lt a b ≡ true
lt_is a b h = grind (arith, ints)

pub not_says : (b : Bool) → not b ≡ true → b ≡ false
not_says true h = cc
not_says false h = refl

-- the lesser of two numbers, one of which is at most one of two others, is at most the greater of those
pub under_says : (a b c d : ℤ) → is_under a b c d ≡ true → int_min a b ≤ℤ int_max c d
unfolding is_under
under_says a b c d h =
    ⊎_elim
    (λ h3. ⊎_elim
    (λ h2. ⊎_elim
    (λ h1. let e = le_says a c h1 in omega (arith, ints, clamps))
    (λ h1. let e = le_says a d h1 in omega (arith, ints, clamps))
    (or_either (int_le a c) (int_le a d) h2))
    (λ h2. let e = le_says b c h2 in omega (arith, ints, clamps))
    (or_either (int_le a c || int_le a d) (int_le b c) h3))
    (λ h3. let e = le_says b d h3 in omega (arith, ints, clamps))
    (or_either (int_le a c || int_le a d || int_le b c) (int_le b d) h)
