-- The box of `picture --crop`: its text writes one box at most.
use Rattle.std.proofs.Common.{◌≡◌, ◌∙◌, ℤ, sym, subst}
use Rattle.std.proofs.lemmas.Int.{to_z-of_z}
use Rattle.std.specs.Prelude.{FitsSigned}
use Rattle.std.specs.Int.{w16}
use mir.Val.{of_z, to_z}
use Rattle.clap.specs.Words.{Text}
use Rattle.cli_words.specs.Boxes.{HasFirstNumber, WritesNumber, box_between}

-- what stands behind the first number
pub same_behind : (text : Text) (n m : ℤ) (a b : Text) → HasFirstNumber text n a → HasFirstNumber text m b → b ≡ a
same_behind text n m a b p q = q.is ∙ sym p.is

-- the number before the comma behind it
pub then_first : (text : Text) (n m k : ℤ) (a b next : Text) → HasFirstNumber text n a → HasFirstNumber text m b → HasFirstNumber b k next → HasFirstNumber a k next
then_first text n m k a b next p q then = subst (λ (t : Text). HasFirstNumber t k next) (same_behind text n m a b p q) then

-- a number that a text writes, written as 16 bits and read back
pub read_back : (text : Text) (n : ℤ) → WritesNumber text n → to_z w16 (of_z w16 n) ≡ n
read_back text n w = to_z-of_z w16 n (subst (λ (z : ℤ). FitsSigned w16 z) (sym w.is) w.fits)

-- the box with the same corners
pub same_box : (a b c d p q r s : ℤ) → a ≡ p → b ≡ q → c ≡ r → d ≡ s
    → box_between (record { x = a; y = b }) (record { x = c; y = d }) ≡ box_between (record { x = p; y = q }) (record { x = r; y = s })
same_box a b c d p q r s e f g h i = box_between (record { x = e i; y = f i }) (record { x = g i; y = h i })
