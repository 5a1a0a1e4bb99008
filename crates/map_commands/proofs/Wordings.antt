-- The words of a command hold no space and are short, so a command's line has just these words.
use Rattle.std.proofs.Common.{◌≡◌, ℕ, suc, ◌*◌, ◌^◌, ◌≤◌, ◌<◌, Bool, true, false, ◌&&◌, List, [], ◌∷◌, ◌++◌, length, refl, ◌∙◌, ap, arith, nat_eq, length-append, ℤ, pos, negsuc, FitsSigned, lit≤}
use Rattle.std.specs.Prelude.{decimal, not, nat_le}
use Rattle.std.specs.Int.{w16}
use Rattle.std.specs.Fmt.{signed_decimal}
use Rattle.std.specs.List.{list_all, join_with_byte}
use Rattle.std.specs.Char.{is_ascii_digit}
use Rattle.std.specs.Str.{all_ascii_digits}
use Rattle.std.proofs.lemmas.Bool.{both_ways, leb-true}
use Rattle.std.proofs.lemmas.Fmt.{length-decimal-le}
use Rattle.lump_records.specs.declared.records.Name8.{Name8}
use Rattle.map_tables.specs.declared.kind.Kind.{Kind}
use Rattle.map_tables.specs.declared.kind.Kind.TheVariants as kind
use Rattle.map_tables.specs.Ranges.{last_of}
use Rattle.lump_records.specs.Names.{IsNamed, is_marker, is_name, is_name_byte, name_text}
use Rattle.map_commands.specs.Spelling.{kind_word}
use Rattle.map_words.specs.Words.{onto_first, parts}
use Rattle.map_words.proofs.NumeralWords.{both, decimal-digits}
use Rattle.map_commands.proofs.Padding.{apart, marker-bytes}
use Rattle.map_words.proofs.LineParts.{parts-other}

-- a byte that is no space
abbrev pub is_inside : ℕ → Bool
is_inside b = not (nat_eq b 32)

-- what is known of a word of a command
pub record IsText (w : List ℕ) : Type 0 where
  pub inside : list_all is_inside w ≡ true
  pub short : length w ≤ 11

abbrev pub AreTexts : List (List ℕ) → Type 0
AreTexts [] = Unit {0}
AreTexts (w ∷ ws) = IsText w × AreTexts ws

-- ---- The line of the words

no-space : (b : ℕ) → is_inside b ≡ true → b ≡ 32 → ⊥
no-space b e is = both_ways (is_inside b) (ap is_inside is) e

parts-word : (w rest : List ℕ) → list_all is_inside w ≡ true → parts (w ++ (32 ∷ rest)) ≡ w ∷ parts rest
parts-word [] rest e = refl
parts-word (b ∷ bs) rest e =
    let h = both (is_inside b) (list_all is_inside bs) e in
    parts-other b (bs ++ (32 ∷ rest)) (no-space b h.0) ∙ ap (onto_first b) (parts-word bs rest h.1)

parts-last : (w : List ℕ) → list_all is_inside w ≡ true → parts w ≡ w ∷ []
parts-last [] e = refl
parts-last (b ∷ bs) e =
    let h = both (is_inside b) (list_all is_inside bs) e in
    parts-other b bs (no-space b h.0) ∙ ap (onto_first b) (parts-last bs h.1)

-- the parts of the line that the words make are the words
pub parts-join : (w : List ℕ) (ws : List (List ℕ)) → AreTexts (w ∷ ws) → parts (join_with_byte 32 (w ∷ ws)) ≡ w ∷ ws
parts-join w [] h = parts-last w h.0.inside
parts-join w (v ∷ vs) h = parts-word w (join_with_byte 32 (v ∷ vs)) h.0.inside ∙ ap (λ us. w ∷ us) (parts-join v vs h.1)

-- and the line isn't long
pub join-short : (ws : List (List ℕ)) → AreTexts ws → length (join_with_byte 32 ws) ≤ 12 * length ws
join-short [] h = omega arith
join-short (w ∷ []) h = let s = h.0.short in omega arith
join-short (w ∷ v ∷ vs) h =
    let s = h.0.short in
    let r = join-short (v ∷ vs) h.1 in
    let a = length-append w (32 ∷ join_with_byte 32 (v ∷ vs)) in
    omega (arith, a, r, s)

-- ---- Words

pub both-back : (a b : Bool) → a ≡ true → b ≡ true → (a && b) ≡ true
both-back true b e f = f
both-back false b e f = absurd cc

digit-inside : (b : ℕ) → is_ascii_digit b ≡ true → is_inside b ≡ true
digit-inside b e = ap not (apart is_ascii_digit 32 b refl e)

name-inside : (b : ℕ) → is_name_byte b ≡ true → is_inside b ≡ true
name-inside b e = ap not (apart is_name_byte 32 b refl e)

pub all-of : (p q : ℕ → Bool) → ((b : ℕ) → p b ≡ true → q b ≡ true) → (w : List ℕ) → list_all p w ≡ true → list_all q w ≡ true
all-of p q f [] e = refl
all-of p q f (b ∷ bs) e = let h = both (p b) (list_all p bs) e in both-back (q b) (list_all q bs) (f b h.0) (all-of p q f bs h.1)

digits-inside : (w : List ℕ) → all_ascii_digits w ≡ true → list_all is_inside w ≡ true
digits-inside [] e = refl
digits-inside (b ∷ bs) e =
    let h = both (is_ascii_digit b) (all_ascii_digits bs) e in
    both-back (is_inside b) (list_all is_inside bs) (digit-inside b h.0) (digits-inside bs h.1)

pub decimal-text : (n : ℕ) → n < 2 ^ 16 → IsText (decimal n)
decimal-text n h =
    let l = length-decimal-le 5 n (omega arith) (omega arith) (omega arith) in
    record { inside = digits-inside (decimal n) (decimal-digits n (omega arith)); short = omega (arith, l) }

minus-text : (w : List ℕ) → list_all is_inside w ≡ true → length w ≤ 5 → IsText (45 ∷ w)
minus-text w h l = record { inside = h; short = omega arith }

pub signed-text : (z : ℤ) → FitsSigned w16 z → IsText (signed_decimal z)
signed-text (pos n) f = let h = f.sfits in decimal-text n (omega (arith, h))
signed-text (negsuc n) f =
    let h = f.sfits in
    minus-text (decimal (suc n)) (digits-inside (decimal (suc n)) (decimal-digits (suc n) (omega (arith, h))))
    (length-decimal-le 5 (suc n) (omega arith) (omega (arith, h)) (omega (arith, h)))

pub name-is-text : (n : Name8) → IsNamed is_name n → IsText (name_text n)
name-is-text n h =
    let e = both (nat_le 1 (length (name_text n)) && nat_le (length (name_text n)) 8) (list_all is_name_byte (name_text n)) h.named in
    let l = both (nat_le 1 (length (name_text n))) (nat_le (length (name_text n)) 8) e.0 in
    let s = leb-true (length (name_text n)) 8 l.1 in
    record { inside = all-of is_name_byte is_inside name-inside (name_text n) e.1; short = omega (arith, s) }

marker-length : (w : List ℕ) → is_marker w ≡ true → length w ≤ 5
marker-length [] e = omega arith
marker-length (a ∷ []) e = omega arith
marker-length (a ∷ b ∷ []) e = omega arith
marker-length (a ∷ b ∷ c ∷ []) e = omega arith
marker-length (a ∷ b ∷ c ∷ d ∷ []) e = omega arith
marker-length (a ∷ b ∷ c ∷ d ∷ f ∷ []) e = omega arith
marker-length (a ∷ b ∷ c ∷ d ∷ f ∷ g ∷ ws) e = absurd cc

pub marker-is-text : (n : Name8) → IsNamed is_marker n → IsText (name_text n)
marker-is-text n h =
    let s = marker-length (name_text n) h.named in
    record { inside = all-of is_name_byte is_inside name-inside (name_text n) (marker-bytes (name_text n) h.named); short = omega (arith, s) }

pub kind-text : (k : Kind) → IsText (kind_word k)
kind-text kind.Vertex = record { inside = refl; short = lit≤ tt }
kind-text kind.Sector = record { inside = refl; short = lit≤ tt }
kind-text kind.Side = record { inside = refl; short = lit≤ tt }
kind-text kind.Line = record { inside = refl; short = lit≤ tt }
kind-text kind.Thing = record { inside = refl; short = lit≤ tt }

pub number-text : (n last : ℕ) → n ≤ last → last ≤ 32767 → IsText (decimal n)
number-text n last h l = decimal-text n (omega arith)

pub drop-texts : (k : Kind) (n : ℕ) → n ≤ last_of k → IsText (decimal n)
drop-texts kind.Vertex n h = number-text n 32766 h (lit≤ tt)
drop-texts kind.Sector n h = number-text n 4095 h (lit≤ tt)
drop-texts kind.Side n h = number-text n 32766 h (lit≤ tt)
drop-texts kind.Line n h = number-text n 32766 h (lit≤ tt)
drop-texts kind.Thing n h = number-text n 32766 h (lit≤ tt)
