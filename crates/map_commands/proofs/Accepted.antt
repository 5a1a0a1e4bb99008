-- The line of a command whose numbers and names are in range has no fault.
use Rattle.std.proofs.Common.{◌≡◌, ℕ, suc, ◌≤◌, ◌<◌, Bool, true, false, cond, ◌&&◌, List, [], ◌∷◌, length, get_or, refl, sym, ◌∙◌, ap, arith, nat_eq, nat_lt, ℤ, pos, negsuc, FitsSigned, Option, Some, None, lit≤}
use Rattle.std.specs.Prelude.{◌||◌, IsTrue, bytes_eq, codes, decimal, int_le, nat_le, not}
use Rattle.std.specs.Int.{w16}
use Rattle.std.specs.Fmt.{signed_decimal}
use Rattle.std.specs.List.{list_all}
use Rattle.std.specs.Str.{all_ascii_digits}
use Rattle.std.proofs.lemmas.Bool.{le-leb, leb-true, lt-ltb, ne_eqb}
use Rattle.std.proofs.lemmas.Fmt.{first_decimal}
use Rattle.std.proofs.lemmas.Int.{ints}
use Rattle.lump_records.specs.declared.records.Name8.{Name8}
use Rattle.lump_records.specs.Drawing.{IsBetween}
use Rattle.lump_records.specs.Names.{IsNamed, is_digit, is_marker, is_name, is_name_byte, is_nonzero_digit, name_text}
use Rattle.lump_records.specs.Sides.{no_side}
use Rattle.map_commands.specs.Spelling.{left_word}
use Rattle.map_words.specs.Words.{is_natural, is_numeral, is_printable, is_word}
use Rattle.map_commands.specs.Places.{Place, Number, NumberOrNone, Named, prior_fault, place_fault, places_fault}
use Rattle.map_words.proofs.NumeralWords.{IsPlain, both, decimal-plain, digits-same, tells-le, value-back}
use Rattle.map_commands.proofs.Padding.{marker-bytes, name-range}
use Rattle.map_commands.proofs.Readings.{number-alone}
use Rattle.map_commands.proofs.Wordings.{all-of, both-back}

-- ---- Numerals

plain-digits : (w : List ℕ) → all_ascii_digits w ≡ true → list_all is_digit w ≡ true
plain-digits w e = sym (digits-same w) ∙ e

nonzero : (b : ℕ) → is_digit b ≡ true → (b ≡ 48 → ⊥) → is_nonzero_digit b ≡ true
nonzero b e ne =
    let h = both (nat_le 48 b) (nat_le b 57) e in
    let least = leb-true 48 b h.0 in
    both-back (nat_le 49 b) (nat_le b 57) (le-leb 49 b (omega (arith, least, ne))) h.1

natural-form : (w : List ℕ) → IsPlain w → is_natural w ≡ true
natural-form [] p = let h = p.some in absurd (omega arith)
natural-form (b ∷ []) p = (both (is_digit b) true (plain-digits (b ∷ []) p.digits)).0
natural-form (b ∷ c ∷ bs) p =
    let h = both (is_digit b) (list_all is_digit (c ∷ bs)) (plain-digits (b ∷ c ∷ bs) p.digits) in
    both-back (is_nonzero_digit b) (list_all is_digit (c ∷ bs)) (nonzero b h.0 (λ z. let l = p.front z in absurd (omega arith))) h.1

no-minus : (b : ℕ) → 48 ≤ b → nat_eq b 45 ≡ false
no-minus b low = ne_eqb b 45 (λ is. omega (arith, low, is))

unsigned-form : (w : List ℕ) → IsPlain w → is_numeral w ≡ true
unsigned-form [] p = let h = p.some in absurd (omega arith)
unsigned-form (b ∷ bs) p =
    let other = no-minus b p.low in
    ap (λ t. cond t (is_natural bs && not (bytes_eq bs (codes "0"))) (is_natural (b ∷ bs))) other ∙ natural-form (b ∷ bs) p

not-zero : (w : List ℕ) → 48 < get_or w 0 0 → bytes_eq w (codes "0") ≡ false
not-zero [] h = refl
not-zero (b ∷ bs) h = let other = ne_eqb b 48 (λ is. omega (arith, h, is)) in ap (λ t. t && bytes_eq bs []) other

minus-form : (w : List ℕ) → IsPlain w → 48 < get_or w 0 0 → is_numeral (45 ∷ w) ≡ true
minus-form w p h = both-back (is_natural w) (not (bytes_eq w (codes "0"))) (natural-form w p) (ap not (not-zero w h))

-- what is written of a number is a numeral
signed-form : (z : ℤ) → FitsSigned w16 z → is_numeral (signed_decimal z) ≡ true
signed-form (pos n) f = let h = f.sfits in unsigned-form (decimal n) (decimal-plain n (omega (arith, h)))
signed-form (negsuc n) f =
    let h = f.sfits in
    minus-form (decimal (suc n)) (decimal-plain (suc n) (omega (arith, h))) (first_decimal (suc n) (omega arith) (omega (arith, h)))

-- ---- Places

-- a word has no fault at its place
pub record Fits (p : Place) (w : List ℕ) : Type 0 where
  pub none : place_fault p w ≡ None

-- words have no fault at their places
pub record AllFit (ps : List Place) (ws : List (List ℕ)) : Type 0 where
  pub none : places_fault ps ws ≡ None

pub all-read : AllFit [] []
all-read = record { none = refl }

-- one place more, with nothing wrong
pub next : (p : Place) (ps : List Place) (w : List ℕ) (ws : List (List ℕ)) → Fits p w → AllFit ps ws → AllFit (p ∷ ps) (w ∷ ws)
next p ps w ws e f = record { none = λ i. prior_fault (e.none i) (f.none i) }

number-fault : (low high z : ℤ) → FitsSigned w16 z → IsBetween low high z → place_fault (Number low high) (signed_decimal z) ≡ None
number-fault low high z f h =
    let form = signed-form z f in
    let value = value-back z f in
    let least = tells-le low z h.at_least in
    let greatest = tells-le z high h.at_most in
    (λ i. cond {A = Option ℕ} (form i) (cond (int_le low (value i) && int_le (value i) high) None (Some 2)) (Some 1))
    ∙ (λ i. cond {A = Option ℕ} (least i && greatest i) None (Some 2))

pub number-ok : (low high z : ℤ) → FitsSigned w16 z → IsBetween low high z → Fits (Number low high) (signed_decimal z)
number-ok low high z f h = record { none = number-fault low high z f h }

natural-between : (n last : ℕ) → n ≤ last → IsBetween (pos 0) (pos last) (pos n)
natural-between n last h = record { at_least = omega (arith, ints); at_most = omega (arith, ints) }

pub item-ok : (n last : ℕ) → n ≤ last → last ≤ 32767 → Fits (Number (pos 0) (pos last)) (decimal n)
item-ok n last h l = number-ok (pos 0) (pos last) (pos n) (record { sfits = omega arith }) (natural-between n last h)

pub no-dash : (w : List ℕ) → IsPlain w → bytes_eq w (codes "-") ≡ false
no-dash [] p = refl
no-dash (b ∷ bs) p =
    ap (λ t. t && bytes_eq bs []) (no-minus b p.low)

low-left : (a b : Bool) → a ≡ false → (b || a) ≡ true → b ≡ true
low-left a true e f = refl
low-left a false e f = absurd cc

left-if : (n : ℕ) (t : Bool) → nat_eq n no_side ≡ t → (nat_le n 32766 || t) ≡ true → place_fault (NumberOrNone (pos 0) (pos 32766)) (cond t (codes "-") (decimal n)) ≡ None
left-if n true e h = refl
left-if n false e h =
    let few = leb-true n 32766 (low-left false (nat_le n 32766) refl h) in
    number-alone (decimal n) (pos 0) (pos 32766) (no-dash (decimal n) (decimal-plain n (omega arith)))
    ∙ (item-ok n 32766 few (lit≤ tt)).none

pub left-ok : (n : ℕ) → IsTrue (nat_le n 32766 || nat_eq n no_side) → Fits (NumberOrNone (pos 0) (pos 32766)) (left_word n)
left-ok n h = record { none = left-if n (nat_eq n no_side) refl h }

name-prints : (b : ℕ) → is_name_byte b ≡ true → is_printable b ≡ true
name-prints b e =
    let range = name-range b e in
    both-back (nat_le 33 b) (nat_le b 126) (le-leb 33 b (omega (arith, range.0))) (le-leb b 126 (omega (arith, range.1)))

named : (test : List ℕ → Bool) (w : List ℕ) → is_word w ≡ true → test w ≡ true → Fits (Named test) w
named test w e f = record { none = (λ i. cond {A = Option ℕ} (e i) (cond (test w) None (Some 15)) (Some 1)) ∙ (λ i. cond {A = Option ℕ} (f i) None (Some 15)) }

pub name-ok : (n : Name8) → IsNamed is_name n → Fits (Named is_name) (name_text n)
name-ok n h =
    let w = name_text n in
    let e = both (nat_le 1 (length w) && nat_le (length w) 8) (list_all is_name_byte w) h.named in
    let l = both (nat_le 1 (length w)) (nat_le (length w) 8) e.0 in
    let some = leb-true 1 (length w) l.0 in
    named is_name w (both-back (nat_lt 0 (length w)) (list_all is_printable w) (lt-ltb 0 (length w) (omega arith)) (all-of is_name_byte is_printable name-prints w e.1)) h.named

marker-some : (w : List ℕ) → is_marker w ≡ true → nat_lt 0 (length w) ≡ true
marker-some [] e = absurd cc
marker-some (b ∷ bs) e = lt-ltb 0 (length (b ∷ bs)) (omega arith)

pub marker-ok : (n : Name8) → IsNamed is_marker n → Fits (Named is_marker) (name_text n)
marker-ok n h =
    let w = name_text n in
    named is_marker w (both-back (nat_lt 0 (length w)) (list_all is_printable w) (marker-some w h.named) (all-of is_name_byte is_printable name-prints w (marker-bytes w h.named))) h.named
