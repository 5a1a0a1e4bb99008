-- A word that is a numeral, as it is read.
use Rattle.std.proofs.Common.{◌≡◌, ℕ, suc, zero, ◌≤◌, ◌<◌, ◌^◌, Bool, true, false, cond, ◌&&◌, List, [], ◌∷◌, length, get_or, refl, sym, ◌∙◌, ap, arith, ℤ, pos, negsuc, nat_eq, FitsSigned, inl, inr, min, subst, drop, take, ◌+◌, ◌*◌, ◌-◌, ◌-ℤ◌, to_z, of_z, eq-eqb, length-drop, length-take-le, lit<}
use Rattle.std.specs.Prelude.{◌≤ℤ◌, decimal, neg_ℤ, int_le, nat_le, not, bytes_eq, codes}
use Rattle.std.specs.Int.{w16, w32}
use Rattle.std.specs.Fmt.{signed_decimal, digits}
use Rattle.std.specs.List.{list_all}
use Rattle.std.specs.Str.{all_ascii_digits}
use Rattle.std.specs.Str.Parse.{digits_value, without_leading_sign}
use Rattle.std.proofs.lemmas.Bool.{and_from, cases_lt, eqb-true, le-leb, leb-true, lt-leb, ne_eqb}
use Rattle.std.proofs.lemmas.Str.{digit_value_digit}
use Rattle.std.proofs.lemmas.Int.Digits.{digits_value_more}
use Rattle.std.proofs.lemmas.Str.Parse.{IsNumeralModel, numerals_by_value, tells_all_ascii_digits}
use Rattle.std.proofs.lemmas.List.{get_or-take, take_all}
use Rattle.std.proofs.lemmas.List.Folds.{list_all_at}
use Rattle.std.proofs.lemmas.Int.{ints, to_z-of_z}
use Rattle.std.proofs.lemmas.Float.{T_from_true}
use Rattle.std.specs.Int.Signed.{le_z_yes}
use Rattle.std.proofs.lemmas.Fmt.{decimal-digits_value, digits_decimal, digits_value-decimal, decimal_nonempty, first_decimal}
use Rattle.lump_records.specs.Drawing.{IsBetween}
use Rattle.lump_records.specs.Names.{is_digit, is_nonzero_digit}
use Rattle.map_words.specs.Words.{clamped, has_natural_front, is_numeral, is_natural, numeral_value, parts}
use Rattle.map_words.proofs.LineParts.{parts-at, parts-none}

own : IsNumeralModel (λ ds. all_ascii_digits ds ≡ true) (digits_value 10)
own = numerals_by_value _ tells_all_ascii_digits

-- the number of one digit more
pub value-more : (w : List ℕ) (i : ℕ) → i < length w → (48 ≤ get_or w i 0) × (get_or w i 0 ≤ 57) → digits_value 10 (take (i + 1) w) + 48 ≡ digits_value 10 (take i w) * 10 + get_or w i 0
value-more w i h range =
    let value = digit_value_digit (get_or w i 0) range in
    omega (arith, digits_value_more 10 w i h, value)

-- what a natural's digits are
pub record IsPlain (w : List ℕ) : Type 0 where
  pub digits : all_ascii_digits w ≡ true
  pub some : 0 < length w
  pub front : get_or w 0 0 ≡ 48 → length w ≡ 1
  pub low : 48 ≤ get_or w 0 0
  pub high : get_or w 0 0 ≤ 57

pub both : (a b : Bool) → (a && b) ≡ true → (a ≡ true) × (b ≡ true)
both true b e = (refl, e)
both false b e = absurd cc

-- a digit is what `parse` takes for one
pub digits-same : (w : List ℕ) → all_ascii_digits w ≡ list_all is_digit w
digits-same [] = refl
digits-same (b ∷ bs) = ap (λ t. is_digit b && t) (digits-same bs)

pub digit-range : (b : ℕ) → is_digit b ≡ true → (48 ≤ b) × (b ≤ 57)
digit-range b e = let h = both (nat_le 48 b) (nat_le b 57) e in (leb-true 48 b h.0, leb-true b 57 h.1)

one-plain : (b : ℕ) → is_digit b ≡ true → IsPlain (b ∷ [])
one-plain b e =
    let range = digit-range b e in
    record { digits = and_from (is_digit b) true e refl; some = omega arith; front = λ h. refl; low = range.0; high = range.1 }

more-plain : (b : ℕ) (bs : List ℕ) → is_nonzero_digit b ≡ true → all_ascii_digits bs ≡ true → IsPlain (b ∷ bs)
more-plain b bs e r =
    let h = both (nat_le 49 b) (nat_le b 57) e in
    let least = leb-true 49 b h.0 in
    let low : 48 ≤ b = omega (arith, least) in
    record {
      digits = and_from (is_digit b) (all_ascii_digits bs) (and_from (nat_le 48 b) (nat_le b 57) (le-leb 48 b low) h.1) r;
      some = omega arith;
      front = λ (is : b ≡ 48). absurd (omega (arith, least, is));
      low = low;
      high = leb-true b 57 h.1;
    }

plain : (w : List ℕ) → is_natural w ≡ true → IsPlain w
plain [] e = absurd cc
plain (b ∷ []) e = one-plain b e
plain (b ∷ c ∷ bs) e = more-plain b (c ∷ bs) (both _ _ e).0 (digits-same (c ∷ bs) ∙ (both _ _ e).1)

-- a natural is what is written of its value
natural-written : (w : List ℕ) → IsPlain w → digits_value 10 w < 2 ^ 64 → decimal (digits_value 10 w) ≡ w
natural-written w p small = decimal-digits_value own w p.digits p.some p.front small

-- a byte other than a digit isn't in front
not-in_front : (w : List ℕ) → IsPlain w → (b : ℕ) → b < 48 → nat_eq (get_or w 0 0) b ≡ false
not-in_front w p b h = let low = p.low in ne_eqb (get_or w 0 0) b (λ is. omega (arith, low, is))

natural-sign : (w : List ℕ) → IsPlain w → without_leading_sign w ≡ w
natural-sign w p =
    let minus = not-in_front w p 45 (lit< tt) in
    let plus = not-in_front w p 43 (lit< tt) in
    λ i. cond (minus i) (drop 1 w) (drop (cond (plus i) 1 0) w)

natural-value : (w : List ℕ) → IsPlain w → numeral_value w ≡ pos (digits_value 10 w)
natural-value w p =
    let minus = not-in_front w p 45 (lit< tt) in
    let same = natural-sign w p in
    λ i. cond (minus i) (neg_ℤ (pos (digits_value 10 (without_leading_sign w)))) (pos (digits_value 10 (same i)))

numeral-if : {P : Type 0} (b : ℕ) (bs : List ℕ) (t : Bool) → nat_eq b 45 ≡ t
    → cond t (is_natural bs && not (bytes_eq bs (codes "0"))) (is_natural (b ∷ bs)) ≡ true → (IsPlain (b ∷ bs) → P)
    → ((ds : List ℕ) → b ∷ bs ≡ 45 ∷ ds → IsPlain ds → (ds ≡ codes "0" → ⊥) → P) → P
numeral-if b bs true s e f g =
    let h = both (is_natural bs) (not (bytes_eq bs (codes "0"))) e in
    let is = eqb-true b 45 s in
    g bs (ap (λ x. x ∷ bs) is) (plain bs h.0) (λ z. let k = ap (λ x. not (bytes_eq x (codes "0"))) z in cc (h.1, k))
numeral-if b bs false s e f g = f (plain (b ∷ bs) e)

-- a numeral has no sign, or a minus
numeral-by : {P : Type 0} (w : List ℕ) → is_numeral w ≡ true → (IsPlain w → P) → ((ds : List ℕ) → w ≡ 45 ∷ ds → IsPlain ds → (ds ≡ codes "0" → ⊥) → P) → P
numeral-by [] e f g = absurd cc
numeral-by (b ∷ bs) e f g = numeral-if b bs (nat_eq b 45) refl e f g

neg-written : (v : ℕ) (ds : List ℕ) → (v ≡ 0 → ⊥) → decimal v ≡ ds → signed_decimal (neg_ℤ (pos v)) ≡ 45 ∷ ds
neg-written zero ds ne e = absurd (ne refl)
neg-written (suc n) ds ne e = ap (λ xs. 45 ∷ xs) e

neg-small : (v : ℕ) → FitsSigned w16 (neg_ℤ (pos v)) → v < 2 ^ 64
neg-small zero f = omega arith
neg-small (suc n) f = let h = f.sfits in omega (arith, h)

pub zero-written : decimal 0 ≡ codes "0"
unfolding digits
zero-written = refl

-- a numeral is what is written of its value
pub canonical : (w : List ℕ) → is_numeral w ≡ true → FitsSigned w16 (numeral_value w) → signed_decimal (numeral_value w) ≡ w
canonical w e fits =
    numeral-by w e
    (λ p.
    let f = subst (FitsSigned w16) (natural-value w p) fits in
    let h = f.sfits in
    ap signed_decimal (natural-value w p) ∙ natural-written w p (omega (arith, h)))
    (λ ds is p some.
    let v = digits_value 10 ds in
    let value : numeral_value w ≡ neg_ℤ (pos v) = ap numeral_value is in
    let f = subst (FitsSigned w16) value fits in
    let written = natural-written ds p (neg-small v f) in
    let ne : v ≡ 0 → ⊥ = λ z. some (sym written ∙ ap decimal z ∙ zero-written) in
    ap signed_decimal value ∙ neg-written v ds ne written ∙ sym is)

pub between : (low v high : ℤ) → FitsSigned w16 low → FitsSigned w16 high → int_le low v ≡ true → int_le v high ≡ true → FitsSigned w16 v
between (pos a) (pos n) (pos b) f g p q = let h = g.sfits in record { sfits = omega (arith, h, leb-true n b q) }
between (pos a) (pos n) (negsuc b) f g p q = absurd cc
between (pos a) (negsuc n) high f g p q = absurd cc
between (negsuc a) (pos n) (pos b) f g p q = let h = g.sfits in record { sfits = omega (arith, h, leb-true n b q) }
between (negsuc a) (pos n) (negsuc b) f g p q = absurd cc
between (negsuc a) (negsuc n) high f g p q = let h = f.sfits in record { sfits = omega (arith, h, leb-true n a p) }

-- what the digits behind a minus stand for
pub minus-value : (w : List ℕ) → get_or w 0 0 ≡ 45 → numeral_value w ≡ neg_ℤ (pos (digits_value 10 (take (length w - 1) (drop 1 w))))
minus-value w h =
    let minus = eq-eqb (get_or w 0 0) 45 h in
    let all : take (length w - 1) (drop 1 w) ≡ drop 1 w = take_all (length w - 1) (drop 1 w) (omega (arith, length-drop 1 w)) in
    (λ i. cond (minus i) (neg_ℤ (pos (digits_value 10 (cond (minus i) (drop 1 w) (drop (cond (nat_eq (get_or w 0 0) 43) 1 0) w))))) (pos (digits_value 10 (cond (minus i) (drop 1 w) (drop (cond (nat_eq (get_or w 0 0) 43) 1 0) w)))))
    ∙ ap (λ ds. neg_ℤ (pos (digits_value 10 ds))) (sym all)

pub negated : (n : ℕ) → n ≤ 32769 → to_z w32 (of_z w32 (pos 0 -ℤ to_z w32 n)) ≡ neg_ℤ (pos n)
negated n h = omega (arith, ints)

-- ---- One loop for form and value

and-true : (t : Bool) → t ≡ (t && true)
and-true true = refl
and-true false = refl

zero-front : (b : ℕ) (t : Bool) → b ≤ 48 → (not (nat_eq b 48) && (is_digit b && t)) ≡ false
zero-front b t below = elim (cases_lt b 48) [
  | inl lt ↦
      let other : nat_eq b 48 ≡ false = ne_eqb b 48 (λ is. omega (arith, lt, is)) in
      let low : nat_le 48 b ≡ false = lt-leb 48 b lt in
      λ i. not (other i) && ((low i && nat_le b 57) && t)
  | inr ge ↦ let is : nat_eq b 48 ≡ true = eq-eqb b 48 (omega (arith, below, ge)) in λ i. not (is i) && (is_digit b && t)
]

nonzero-digit : (b : ℕ) (t : Bool) → (is_nonzero_digit b && t) ≡ (not (nat_eq b 48) && (is_digit b && t))
nonzero-digit b t = elim (cases_lt 48 b) [
  | inl above ↦
      let high : nat_le 49 b ≡ true = le-leb 49 b (omega (arith, above)) in
      let low : nat_le 48 b ≡ true = le-leb 48 b (omega (arith, above)) in
      let other : nat_eq b 48 ≡ false = ne_eqb b 48 (λ is. omega (arith, above, is)) in
      (λ i. (high i && nat_le b 57) && t) ∙ sym (λ i. not (other i) && ((low i && nat_le b 57) && t))
  | inr below ↦
      let high : nat_le 49 b ≡ false = lt-leb 49 b (omega (arith, below)) in
      let left : (is_nonzero_digit b && t) ≡ false = λ i. (high i && nat_le b 57) && t in
      left ∙ sym (zero-front b t below)
]

-- a number without a sign has a front of one, and digits alone
pub natural-front : (w : List ℕ) → is_natural w ≡ (has_natural_front w && list_all is_digit w)
natural-front [] = refl
natural-front (b ∷ []) = and-true (is_digit b)
natural-front (b ∷ c ∷ bs) = nonzero-digit b (list_all is_digit (c ∷ bs))

clamped-negated : (v : ℕ) → clamped (neg_ℤ (pos v)) ≡ neg_ℤ (pos (min v 32769))
clamped-negated zero = refl
clamped-negated (suc n) = let same : suc (min n 32768) ≡ min (suc n) 32769 = omega arith in ap (λ k. neg_ℤ (pos k)) same

-- what was read, with a minus and without one
pub minus-read : (w : List ℕ) (n : ℕ) → get_or w 0 0 ≡ 45 → n ≡ min (digits_value 10 (take (length w - 1) (drop 1 w))) 32769
    → to_z w32 (of_z w32 (pos 0 -ℤ to_z w32 n)) ≡ clamped (numeral_value w)
minus-read w n first is =
    negated n (omega (arith, is)) ∙ ap (λ k. neg_ℤ (pos k)) is ∙ sym (clamped-negated (digits_value 10 (take (length w - 1) (drop 1 w))))
    ∙ ap clamped (sym (minus-value w first))

-- a clamped number of sixteen bits is the number
pub clamped-same : (z : ℤ) → FitsSigned w16 (clamped z) → clamped z ≡ z
clamped-same (pos n) f = let h = f.sfits in ap pos (omega (arith, h))
clamped-same (negsuc n) f = let h = f.sfits in ap negsuc (omega (arith, h))

pub same-clamped : (z : ℤ) → FitsSigned w16 z → clamped z ≡ z
same-clamped (pos n) f = let h = f.sfits in ap pos (omega (arith, h))
same-clamped (negsuc n) f = let h = f.sfits in ap negsuc (omega (arith, h))

fits-wider : (z : ℤ) → FitsSigned w16 z → FitsSigned w32 z
fits-wider (pos n) f = let h = f.sfits in record { sfits = omega (arith, h) }
fits-wider (negsuc n) f = let h = f.sfits in record { sfits = omega (arith, h) }

fits-clamped : (z : ℤ) → FitsSigned w32 (clamped z)
fits-clamped (pos n) = record { sfits = omega arith }
fits-clamped (negsuc n) = record { sfits = omega arith }

-- two numbers of 32 bits that were compared
compared : (a b : ℤ) (t : Bool) → FitsSigned w32 a → FitsSigned w32 b → int_le (to_z w32 (of_z w32 a)) (to_z w32 (of_z w32 b)) ≡ t → int_le a b ≡ t
compared a b t f g e = (λ i. int_le (sym (to_z-of_z w32 a f) i) (sym (to_z-of_z w32 b g) i)) ∙ e

-- what was read of a word, a bound of sixteen bits, and the comparisons with it
module _ (z n bound result : ℤ) (t : Bool) (is : n ≡ clamped z) (f : FitsSigned w16 bound) (widened : result ≡ to_z w16 (of_z w16 bound)) where
  same : result ≡ bound
  same = widened ∙ to_z-of_z w16 bound f

  fits-read : FitsSigned w32 n
  fits-read = subst (FitsSigned w32) (sym is) (fits-clamped z)

  pub compared-low : int_le (to_z w32 (of_z w32 result)) (to_z w32 (of_z w32 n)) ≡ t → int_le bound n ≡ t
  compared-low e = compared bound n t (fits-wider bound f) fits-read (subst (λ (k : ℤ). int_le (to_z w32 (of_z w32 k)) (to_z w32 (of_z w32 n)) ≡ t) same e)

  pub compared-high : int_le (to_z w32 (of_z w32 n)) (to_z w32 (of_z w32 result)) ≡ t → int_le n bound ≡ t
  compared-high e = compared n bound t fits-read (fits-wider bound f) (subst (λ (k : ℤ). int_le (to_z w32 (of_z w32 n)) (to_z w32 (of_z w32 k)) ≡ t) same e)

pub tells-le : (a b : ℤ) → a ≤ℤ b → int_le a b ≡ true
tells-le a b h = grind (arith, ints)

-- a number between two bounds of sixteen bits
pub fits-between : (low high z : ℤ) → FitsSigned w16 low → FitsSigned w16 high → IsBetween low high z → FitsSigned w16 z
fits-between low high z f g h = between low z high f g (tells-le low z h.at_least) (tells-le z high h.at_most)

-- the number that is answered, by two conversions, and what it is between
pub converted : (n : ℤ) → FitsSigned w16 n → to_z w16 (of_z w16 (to_z w32 (of_z w32 n))) ≡ n
converted n f = ap (λ (k : ℤ). to_z w16 (of_z w16 k)) (to_z-of_z w32 n (fits-wider n f)) ∙ to_z-of_z w16 n f

pub is-between : (low n high : ℤ) → int_le low n ≡ true → int_le n high ≡ true → IsBetween low high n
is-between low n high p q = record { at_least = le_z_yes (T_from_true (int_le low n) p); at_most = le_z_yes (T_from_true (int_le n high) q) }

first-digit : (w : List ℕ) → all_ascii_digits w ≡ true → 0 < length w → (48 ≤ get_or w 0 0) × (get_or w 0 0 ≤ 57)
first-digit [] e h = absurd (omega arith)
first-digit (b ∷ bs) e h = digit-range b (both (is_digit b) (all_ascii_digits bs) e).0

decimal-front : (n : ℕ) → n < 2 ^ 64 → get_or (decimal n) 0 0 ≡ 48 → length (decimal n) ≡ 1
decimal-front zero h e = ap length zero-written
decimal-front (suc n) h e = let f = first_decimal (suc n) (omega arith) h in absurd (omega (arith, f, e))

pub decimal-plain : (n : ℕ) → n < 2 ^ 64 → IsPlain (decimal n)
decimal-plain n h =
    let d = digits_decimal own n h in
    let s = decimal_nonempty n h in
    let f = first-digit (decimal n) d s in
    record { digits = d; some = s; front = decimal-front n h; low = f.0; high = f.1 }

-- the value of what is written of a number
pub value-back : (z : ℤ) → FitsSigned w16 z → numeral_value (signed_decimal z) ≡ z
value-back (pos n) f =
    let h = f.sfits in
    let small : n < 2 ^ 64 = omega (arith, h) in
    natural-value (decimal n) (decimal-plain n small) ∙ ap pos (digits_value-decimal own n small)
value-back (negsuc n) f =
    let h = f.sfits in
    let small : suc n < 2 ^ 64 = omega (arith, h) in
    ap (λ v. neg_ℤ (pos v)) (digits_value-decimal own (suc n) small)

pub decimal-digits : (n : ℕ) → n < 2 ^ 64 → all_ascii_digits (decimal n) ≡ true
decimal-digits n h = digits_decimal own n h

-- a space isn't among digits
no-space : (w : List ℕ) (len k : ℕ) → len ≤ length w → list_all is_digit (take len w) ≡ true → k < len → get_or w k 0 ≡ 32 → ⊥
no-space w len k fits digits before space =
    let no : is_digit (get_or (take len w) k 0) ≡ false = ap is_digit (get_or-take len w k 0 before ∙ space) in
    let not_all = list_all_at is_digit (take len w) k 0 (omega (arith, length-take-le len w fits, before)) no in
    let never : true ≡ false = sym digits ∙ not_all in
    cc never

-- the first digit of a number
first-of : (w : List ℕ) (len : ℕ) → 0 < len → len ≤ length w → list_all is_digit (take len w) ≡ true → (48 ≤ get_or w 0 0) × (get_or w 0 0 ≤ 57)
first-of w len some fits digits =
    let here = get_or-take len w 0 0 some in
    let range = first-digit (take len w) (digits-same (take len w) ∙ digits) (omega (arith, length-take-le len w fits, some)) in
    (omega (arith, range.0, here), omega (arith, range.1, here))

-- digits in front are what is written of their number
module _ (w : List ℕ) (len value : ℕ) (some : 0 < len) (fits : len ≤ length w) (digits : list_all is_digit (take len w) ≡ true)
    (front : get_or w 0 0 ≡ 48 → (len ≡ 1) × (value ≡ 0)) (is : value ≡ digits_value 10 (take len w)) (small : value < 2 ^ 64) where
  written-front : decimal value ≡ take len w
  written-front =
      let long = length-take-le len w fits in
      let range = first-of w len some fits digits in
      let here = get_or-take len w 0 0 some in
      let plain : IsPlain (take len w) = record {
        digits = digits-same (take len w) ∙ digits;
        some = omega (arith, long, some);
        front = λ h. long ∙ (front (sym here ∙ h)).0;
        low = omega (arith, range.0, here);
        high = omega (arith, range.1, here);
      } in
      ap decimal is ∙ natural-written (take len w) plain (omega (arith, is, small))

  -- in front of the first space
  pub short-word : len < length w → get_or w len 0 ≡ 32 → parts w ≡ decimal value ∷ parts (take (length w - (len + 1)) (drop (len + 1) w))
  short-word more space =
      parts-at w len (λ k h. no-space w len k fits digits h) more space
      ∙ ap (λ word. word ∷ parts (take (length w - (len + 1)) (drop (len + 1) w))) (sym written-front)

  -- with nothing behind
  pub last-word : length w ≤ len → parts w ≡ decimal value ∷ []
  last-word none =
      parts-none w (λ k h. no-space w len k fits digits (omega (arith, h, none)))
      ∙ ap (λ word. word ∷ []) (sym (take_all len w none) ∙ sym written-front)
