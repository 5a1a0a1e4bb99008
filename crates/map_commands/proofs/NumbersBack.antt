-- A name and a number back from their words.
use Rattle.std.proofs.Common.{◌≡◌, ℕ, ◌≤◌, Bool, true, false, cond, List, refl, sym, ◌∙◌, ap, arith, nat_eq, pos, lit≤}
use Rattle.std.specs.Prelude.{◌||◌, IsTrue, bytes_eq, codes, decimal, nat_le, unsigned_abs}
use Rattle.std.proofs.lemmas.Bool.{eqb-true, leb-true}
use Rattle.lump_records.specs.Sides.{no_side}
use Rattle.map_commands.specs.Spelling.{left_word}
use Rattle.map_words.specs.Words.{numeral_value}
use Rattle.map_commands.proofs.Accepted.{no-dash}
use Rattle.map_words.proofs.NumeralWords.{decimal-plain, value-back}
use Rattle.map_commands.proofs.Wordings.{IsText, decimal-text}

abbrev pub natural_of : List ℕ → ℕ
natural_of w = unsigned_abs (numeral_value w)

pub natural-back : (n : ℕ) → n ≤ 32767 → natural_of (decimal n) ≡ n
natural-back n h = ap unsigned_abs (value-back (pos n) (record { sfits = omega arith }))

abbrev pub left_of : List ℕ → ℕ
left_of w = cond (bytes_eq w (codes "-")) no_side (natural_of w)

first-holds : (a b : Bool) → b ≡ false → (a || b) ≡ true → a ≡ true
first-holds true b e f = refl
first-holds false b e f = absurd (cc (e, f))

left-small : (n : ℕ) → IsTrue (nat_le n 32766 || nat_eq n no_side) → nat_eq n no_side ≡ false → n ≤ 32766
left-small n h e = leb-true n 32766 (first-holds (nat_le n 32766) (nat_eq n no_side) e h)

left-back-if : (n : ℕ) (t : Bool) → nat_eq n no_side ≡ t → IsTrue (nat_le n 32766 || nat_eq n no_side) → left_of (cond t (codes "-") (decimal n)) ≡ n
left-back-if n true e h = sym (eqb-true n no_side e)
left-back-if n false e h =
    let few = left-small n h e in
    ap (λ t. cond t no_side (natural_of (decimal n))) (no-dash (decimal n) (decimal-plain n (omega arith)))
    ∙ natural-back n (omega arith)

pub left-back : (n : ℕ) → IsTrue (nat_le n 32766 || nat_eq n no_side) → left_of (left_word n) ≡ n
left-back n h = left-back-if n (nat_eq n no_side) refl h

left-text-if : (n : ℕ) (t : Bool) → nat_eq n no_side ≡ t → IsTrue (nat_le n 32766 || nat_eq n no_side) → IsText (cond t (codes "-") (decimal n))
left-text-if n true e h = record { inside = refl; short = lit≤ tt }
left-text-if n false e h = let few = left-small n h e in decimal-text n (omega arith)

pub left-text : (n : ℕ) → IsTrue (nat_le n 32766 || nat_eq n no_side) → IsText (left_word n)
left-text n h = left-text-if n (nat_eq n no_side) refl h
