-- A field that is written reads back as it was, and a field that is read is written as the same bytes.
use Rattle.std.proofs.Common.{◌≡◌, ℕ, suc, ◌+◌, ◌*◌, ◌/◌, ◌%◌, ◌≤◌, ◌<◌, ◌^◌, List, ◌∷◌, ◌++◌, length, get_or, take, drop, refl, sym, ◌∙◌, ap, arith, ℤ, to_z, of_z, drop-cons, FitsSigned, rules}
use Rattle.std.specs.Int.{w16, cast_signed, cast_unsigned}
use Rattle.std.proofs.Math.Seq.{take-add, drop-append_seam, take-append_seam}
use Rattle.std.proofs.lemmas.Int.{to_z-of_z, of_z-to_z}
use Rattle.std.proofs.lemmas.List.{get_or-drop}
use Rattle.std.proofs.lemmas.Grind.{common_steps}
use Rattle.lump_records.specs.Fields.{unsigned, signed, unsigned_at, signed_at}

-- the number that the two bytes of a field make
pub unsigned-back : (n : ℕ) → n < 2 ^ 16 → n % 256 + 256 * (n / 256 % 256) ≡ n
unsigned-back n fits = omega arith

pub signed-back : (z : ℤ) → FitsSigned w16 z → cast_signed w16 (cast_unsigned w16 z % 256 + 256 * (cast_unsigned w16 z / 256 % 256)) ≡ z
signed-back z fits =
    let small : cast_unsigned w16 z < 2 ^ 16 = search rules in
    ap (cast_signed w16) (unsigned-back (cast_unsigned w16 z) small) ∙ to_z-of_z w16 z fits

drop-add : (i n : ℕ) (bs : List ℕ) → drop (i + n) bs ≡ drop n (drop i bs)
drop-add i n bs = grind (arith, common_steps)

-- the two bytes of a number that two bytes make
bytes-of-two : (a b : ℕ) (rest : List ℕ) → a < 256 → b < 256 → unsigned (a + 256 * b) ++ rest ≡ a ∷ b ∷ rest
bytes-of-two a b rest p q =
    let low : (a + 256 * b) % 256 ≡ a = omega arith in
    let high : (a + 256 * b) / 256 % 256 ≡ b = omega arith in
    ap (λ x. x ∷ (a + 256 * b) / 256 % 256 ∷ rest) low ∙ ap (λ x. a ∷ x ∷ rest) high

two-first-at : (i j k : ℕ) (bs : List ℕ) → j ≡ suc i → k ≡ suc j → k ≤ length bs → drop i bs ≡ get_or bs i 0 ∷ get_or bs j 0 ∷ drop k bs
two-first-at i j k bs e f le =
    let p : i < length bs = omega arith in
    let q : j < length bs = omega arith in
    drop-cons bs i 0 p
    ∙ ap (λ xs. get_or bs i 0 ∷ xs)
    (ap (λ m. drop m bs) (sym e) ∙ drop-cons bs j 0 q ∙ ap (λ m. get_or bs j 0 ∷ drop m bs) (sym f))

-- the two bytes at i, and what follows
two-first : (i : ℕ) (bs : List ℕ) → i + 2 ≤ length bs → drop i bs ≡ get_or bs i 0 ∷ get_or bs (i + 1) 0 ∷ drop (i + 2) bs
two-first i bs le = two-first-at i (i + 1) (i + 2) bs (omega arith) (omega arith) le

-- the bytes of the field at i, and what follows
pub unsigned-then : (i : ℕ) (bs rest : List ℕ) → ((k : ℕ) → get_or bs k 0 < 256) → i + 2 ≤ length bs → rest ≡ drop (i + 2) bs → unsigned (unsigned_at i bs) ++ rest ≡ drop i bs
unsigned-then i bs rest fits le e =
    bytes-of-two (get_or bs i 0) (get_or bs (i + 1) 0) rest (fits i) (fits (i + 1))
    ∙ ap (λ xs. get_or bs i 0 ∷ get_or bs (i + 1) 0 ∷ xs) e ∙ sym (two-first i bs le)

-- the same for a signed field
pub signed-then : (i : ℕ) (bs rest : List ℕ) → ((k : ℕ) → get_or bs k 0 < 256) → i + 2 ≤ length bs → rest ≡ drop (i + 2) bs → signed (signed_at i bs) ++ rest ≡ drop i bs
signed-then i bs rest fits le e =
    let a = fits i in
    let b = fits (i + 1) in
    let small : unsigned_at i bs < 2 ^ 16 = omega (arith, a, b) in
    ap (λ n. unsigned n ++ rest) (of_z-to_z w16 (unsigned_at i bs) small) ∙ unsigned-then i bs rest fits le e

-- the bytes of the field at i only
pub unsigned-part : (i : ℕ) (bs : List ℕ) → ((k : ℕ) → get_or bs k 0 < 256) → i + 2 ≤ length bs → unsigned (unsigned_at i bs) ≡ take 2 (drop i bs)
unsigned-part i bs fits le = ap (take 2) (unsigned-then i bs (drop (i + 2) bs) fits le refl)

pub signed-part : (i : ℕ) (bs : List ℕ) → ((k : ℕ) → get_or bs k 0 < 256) → i + 2 ≤ length bs → signed (signed_at i bs) ≡ take 2 (drop i bs)
signed-part i bs fits le = ap (take 2) (signed-then i bs (drop (i + 2) bs) fits le refl)

-- one field more
pub after : (i n : ℕ) (bs front field : List ℕ) → front ≡ take i bs → field ≡ take n (drop i bs) → front ++ field ≡ take (i + n) bs
after i n bs front field p q = ap (λ xs. xs ++ field) p ∙ ap (λ xs. take i bs ++ xs) q ∙ sym (take-add i n bs)

-- what follows a field
pub next : (i n : ℕ) (bs field rest : List ℕ) → drop i bs ≡ field ++ rest → length field ≡ n → drop (i + n) bs ≡ rest
next i n bs field rest e size =
    drop-add i n bs ∙ ap (drop n) e ∙ ap (λ m. drop m (field ++ rest)) (sym size) ∙ drop-append_seam field rest

-- ---- the field that is read at the offset of its bytes
pub name-here : (i : ℕ) (bs field rest : List ℕ) → drop i bs ≡ field ++ rest → length field ≡ 8 → take 8 (drop i bs) ≡ field
name-here i bs field rest e size =
    ap (take 8) e ∙ ap (λ m. take m (field ++ rest)) (sym size) ∙ take-append_seam field rest

two-at : (i : ℕ) (bs : List ℕ) (a b : ℕ) (rest : List ℕ) → drop i bs ≡ a ∷ b ∷ rest → unsigned_at i bs ≡ a + 256 * b
two-at i bs a b rest e =
    let p : get_or bs i 0 ≡ a = let same : i ≡ i + 0 = omega arith in ap (λ m. get_or bs m 0) same ∙ sym (get_or-drop i bs 0 0) ∙ ap (λ xs. get_or xs 0 0) e in
    let q : get_or bs (i + 1) 0 ≡ b = sym (get_or-drop i bs 1 0) ∙ ap (λ xs. get_or xs 1 0) e in
    omega (arith, p, q)

pub unsigned-here : (i : ℕ) (bs : List ℕ) (n : ℕ) (rest : List ℕ) → drop i bs ≡ unsigned n ++ rest → n < 2 ^ 16 → unsigned_at i bs ≡ n
unsigned-here i bs n rest e fits = two-at i bs (n % 256) (n / 256 % 256) rest e ∙ unsigned-back n fits

pub signed-here : (i : ℕ) (bs : List ℕ) (z : ℤ) (rest : List ℕ) → drop i bs ≡ signed z ++ rest → FitsSigned w16 z → signed_at i bs ≡ z
signed-here i bs z rest e fits =
    let n = cast_unsigned w16 z in
    ap (cast_signed w16) (two-at i bs (n % 256) (n / 256 % 256) rest e) ∙ signed-back z fits

-- the first bytes, as many as there are, are all of them
pub whole : (n : ℕ) (bs : List ℕ) → length bs ≡ n → bs ≡ take n bs
whole n bs size = grind (arith, common_steps)

-- a signed number as it is passed to a callee
abbrev pub plain : ℤ → ℤ
plain z = to_z w16 (of_z w16 z)
