-- A name filled up with NUL, and its text.
use Rattle.std.proofs.Common.{◌≡◌, ℕ, Bool, true, false, cond, List, [], ◌∷◌, ◌++◌, length, refl, ◌∙◌, ap, arith, zero, suc, ◌-◌, nat_eq, nat_le, nat_lt, ◌≤◌, ◌&&◌, sym, subst, lit≤}
use Rattle.std.specs.Prelude.{◌||◌, take_while, replicate, not}
use Rattle.std.specs.List.{list_all}
use Rattle.std.specs.Str.{IsAscii, IsUtf8}
use Rattle.std.proofs.lemmas.Grind.{common_steps}
use Rattle.std.proofs.lemmas.Str.{IsUtf8-from_ascii}
use Rattle.std.proofs.lemmas.List.Sums.{take_while-cons}
use Rattle.std.proofs.lemmas.Bool.{both_ways, eqb-true, le-leb, leb-true, lt-ltb, ne_eqb, or_left, or_right}
use Rattle.lump_records.specs.declared.records.Name8.{Name8}
use Rattle.lump_records.specs.Names.{IsNamed, is_digit, is_marker, is_name, is_name_byte, is_nonzero_digit, name_of, name_text}
use Rattle.map_words.specs.Words.{is_printable, is_word}
use Rattle.map_words.proofs.NumeralWords.{both}

abbrev pub is_set : ℕ → Bool
is_set b = not (nat_eq b 0)

-- a byte that passes a test isn't one that doesn't
pub apart : (test : ℕ → Bool) (other b : ℕ) → test other ≡ false → test b ≡ true → nat_eq b other ≡ false
apart test other b fails e = ne_eqb b other (λ is. both_ways (test b) (ap test is ∙ fails) e)

set : (b : ℕ) → is_name_byte b ≡ true → is_set b ≡ true
set b e = ap not (apart is_name_byte 0 b refl e)

front : (b : ℕ) (t : Bool) (xs ys : List ℕ) → t ≡ true → xs ≡ ys → cond t (b ∷ xs) [] ≡ b ∷ ys
front b true xs ys e f = ap (λ z. b ∷ z) f
front b false xs ys e f = absurd cc

nothing : (k : ℕ) → take_while is_set (replicate k 0) ≡ []
nothing zero = refl
nothing (suc k) = refl

trim : (w : List ℕ) (k : ℕ) → list_all is_set w ≡ true → take_while is_set (w ++ replicate k 0) ≡ w
trim [] k e = nothing k
trim (b ∷ bs) k e =
    let h = both (is_set b) (list_all is_set bs) e in
    take_while-cons is_set b (bs ++ replicate k 0)
    ∙ front b (is_set b) (take_while is_set (bs ++ replicate k 0)) bs h.0 (trim bs k h.1)

and : (a b : Bool) → a ≡ true → b ≡ true → (a && b) ≡ true
and true b e f = f
and false b e f = absurd cc

all-set : (w : List ℕ) → list_all is_name_byte w ≡ true → list_all is_set w ≡ true
all-set [] e = refl
all-set (b ∷ bs) e =
    let h = both (is_name_byte b) (list_all is_name_byte bs) e in and (is_set b) (list_all is_set bs) (set b h.0) (all-set bs h.1)

-- the two ends of the bytes that a name may have
within : (low high b : ℕ) → (nat_le low b && nat_le b high) ≡ true → 45 ≤ low → high ≤ 95 → (45 ≤ b) × (b ≤ 95)
within low high b e l h =
    let r = both (nat_le low b) (nat_le b high) e in
    let least = leb-true low b r.0 in
    let most = leb-true b high r.1 in
    (omega arith, omega arith)

exactly : (k b : ℕ) → nat_eq b k ≡ true → 45 ≤ k → k ≤ 95 → (45 ≤ b) × (b ≤ 95)
exactly k b e l h = let is = eqb-true b k e in (omega arith, omega arith)

either : {P : Type 0} (x y : Bool) → (x || y) ≡ true → (x ≡ true → P) → (y ≡ true → P) → P
either true y e f g = f refl
either false y e f g = g e

pub name-range : (b : ℕ) → is_name_byte b ≡ true → (45 ≤ b) × (b ≤ 95)
name-range b e =
    either _ _ e (λ e.
    either _ _ e (λ e.
    either _ _ e (λ e.
    either _ _ e (λ e.
    either _ _ e (λ e.
    either _ _ e (λ h. within 65 90 b h (lit≤ tt) (lit≤ tt)) (λ h. within 48 57 b h (lit≤ tt) (lit≤ tt)))
    (λ h. exactly 95 b h (lit≤ tt) (lit≤ tt)))
    (λ h. exactly 45 b h (lit≤ tt) (lit≤ tt)))
    (λ h. exactly 91 b h (lit≤ tt) (lit≤ tt)))
    (λ h. exactly 93 b h (lit≤ tt) (lit≤ tt)))
    (λ h. exactly 92 b h (lit≤ tt) (lit≤ tt))

printable : (w : List ℕ) → list_all is_name_byte w ≡ true → list_all is_printable w ≡ true
printable [] e = refl
printable (b ∷ bs) e =
    let h = both (is_name_byte b) (list_all is_name_byte bs) e in
    let range = name-range b h.0 in
    and (is_printable b) (list_all is_printable bs) (and (nat_le 33 b) (nat_le b 126) (le-leb 33 b (omega (arith, range.0))) (le-leb b 126 (omega (arith, range.1)))) (printable bs h.1)

-- a name is a word
pub name-word : (w : List ℕ) → is_name w ≡ true → is_word w ≡ true
name-word w e =
    let h = both (nat_le 1 (length w) && nat_le (length w) 8) (list_all is_name_byte w) e in
    let some = leb-true 1 (length w) (both (nat_le 1 (length w)) (nat_le (length w) 8) h.0).0 in
    and (nat_lt 0 (length w)) (list_all is_printable w) (lt-ltb 0 (length w) (omega (arith, some))) (printable w h.1)

letter : (k b : ℕ) → is_name_byte k ≡ true → nat_eq b k ≡ true → is_name_byte b ≡ true
letter k b is e = ap is_name_byte (eqb-true b k e) ∙ is

digit : (b : ℕ) → is_digit b ≡ true → is_name_byte b ≡ true
digit b e = or_left _ _ (or_left _ _ (or_left _ _ (or_left _ _ (or_left _ _ (or_right _ _ e)))))

nonzero-digit : (b : ℕ) → is_nonzero_digit b ≡ true → is_name_byte b ≡ true
nonzero-digit b e =
    let h = both (nat_le 49 b) (nat_le b 57) e in
    let least = leb-true 49 b h.0 in
    digit b (and (nat_le 48 b) (nat_le b 57) (le-leb 48 b (omega (arith, least))) h.1)

-- a map's name is of bytes that a name may have
pub marker-bytes : (w : List ℕ) → is_marker w ≡ true → list_all is_name_byte w ≡ true
marker-bytes [] e = absurd cc
marker-bytes (a ∷ []) e = absurd cc
marker-bytes (a ∷ b ∷ []) e = absurd cc
marker-bytes (a ∷ b ∷ c ∷ []) e = absurd cc
marker-bytes (a ∷ b ∷ c ∷ d ∷ []) e =
    let h = both _ _ e in
    let i = both _ _ h.0 in
    let j = both _ _ i.0 in
    and _ _ (letter 69 a refl j.0) (and _ _ (nonzero-digit b j.1) (and _ _ (letter 77 c refl i.1) (and _ _ (nonzero-digit d h.1) refl)))
marker-bytes (a ∷ b ∷ c ∷ d ∷ f ∷ []) e =
    let h = both _ _ e in
    let i = both _ _ h.0 in
    let j = both _ _ i.0 in
    let k = both _ _ j.0 in
    let l = both _ _ k.0 in
    and _ _ (letter 77 a refl l.0) (and _ _ (letter 65 b refl l.1) (and _ _ (letter 80 c refl k.1) (and _ _ (digit d j.1) (and _ _ (digit f i.1) refl))))
marker-bytes (a ∷ b ∷ c ∷ d ∷ f ∷ g ∷ ws) e = absurd cc

marker-text : (w : List ℕ) → is_marker w ≡ true → name_text (name_of w) ≡ w
marker-text w e = trim w (8 - length w) (all-set w (marker-bytes w e))

name-text : (w : List ℕ) → list_all is_name_byte w ≡ true → name_text (name_of w) ≡ w
name-text w e = trim w (8 - length w) (all-set w e)

named : (test : List ℕ → Bool) (w : List ℕ) (n : Name8) → n ≡ name_of w → name_text (name_of w) ≡ w → test w ≡ true → (name_text n ≡ w) × IsNamed test n
named test w n is text e =
    let same : name_text n ≡ w = ap name_text is ∙ text in
    (same, record { padded = is ∙ ap name_of (sym same); named = subst (λ (v : List ℕ). test v ≡ true) (sym same) e })

-- the name of a text that is one
pub found-name : (w : List ℕ) (n : Name8) → n ≡ name_of w → is_name w ≡ true → (name_text n ≡ w) × IsNamed is_name n
found-name w n is e =
    named is_name w n is (name-text w (both (nat_le 1 (length w) && nat_le (length w) 8) (list_all is_name_byte w) e).1) e

pub found-marker : (w : List ℕ) (n : Name8) → n ≡ name_of w → is_marker w ≡ true → (name_text n ≡ w) × IsNamed is_marker n
found-marker w n is e = named is_marker w n is (marker-text w e) e

name-ascii : (w : List ℕ) → list_all is_name_byte w ≡ true → IsAscii w
name-ascii [] e i = grind (arith, common_steps)
name-ascii (b ∷ bs) e zero = let range = name-range b (both (is_name_byte b) (list_all is_name_byte bs) e).0 in omega (arith, range.1)
name-ascii (b ∷ bs) e (suc i) = name-ascii bs (both (is_name_byte b) (list_all is_name_byte bs) e).1 i

pub name_utf8 : (n : Name8) → IsNamed is_name n → IsUtf8 (name_text n)
name_utf8 n h = IsUtf8-from_ascii (name_text n) (name-ascii (name_text n) (both (nat_le 1 (length (name_text n)) && nat_le (length (name_text n)) 8) (list_all is_name_byte (name_text n)) h.named).1)

pub marker_utf8 : (n : Name8) → IsNamed is_marker n → IsUtf8 (name_text n)
marker_utf8 n h = IsUtf8-from_ascii (name_text n) (name-ascii (name_text n) (marker-bytes (name_text n) h.named))
