-- A map's part holds that map, and framed bytes begin with the part of the tables that they hold.
use Rattle.std.proofs.Common.{◌≡◌, ℕ, zero, suc, ◌+◌, ◌*◌, ◌/◌, ◌≤◌, ◌<◌, List, [], ◌∷◌, ◌++◌, length, map, get_or, take, drop, refl, sym, ◌∙◌, ap, arith, length-append, length-drop, append_assoc, inl, inr}
use Rattle.std.specs.Prelude.{flat_map}
use Rattle.std.specs.List.{All}
use Rattle.std.specs.Simd.{first_chunks}
use Rattle.std.proofs.Math.Nat.{mul-div_cancel_left, mul-suc, suc-mul, mul_comm}
use Rattle.std.proofs.lemmas.Bool.{cases_lt}
use Rattle.std.proofs.lemmas.List.{take_at, drop_at, take-append-drop, get_or-take, get_or-drop, get_or_past, length-take, length-take-le, length-map}
use Rattle.std.proofs.lemmas.List.Elements.{All-head, All-tail}
use Rattle.lump_records.specs.Lumps.{records_of}

-- every number of the list is a byte
abbrev pub AreBytes : List ℕ → Type 0
AreBytes bytes = (k : ℕ) → get_or bytes k 0 < 256

pub AreBytes-take : (n : ℕ) (bytes : List ℕ) → AreBytes bytes → AreBytes (take n bytes)
AreBytes-take n bytes fits k =
    elim (cases_lt k n) [
      | inl within ↦ rw (get_or-take n bytes k 0 within) (fits k)
      | inr past ↦
          let ended : get_or (take n bytes) k 0 ≡ 0 = get_or_past (take n bytes) k 0 (omega (arith, length-take n bytes)) in
          omega (arith, ended)
    ]

pub AreBytes-drop : (n : ℕ) (bytes : List ℕ) → AreBytes bytes → AreBytes (drop n bytes)
AreBytes-drop n bytes fits k = rw (get_or-drop n bytes k 0) (fits (n + k))

-- ---- Lists of records

length-first_chunks : {X : Type 0} (n k : ℕ) (xs : List X) → length (first_chunks n k xs) ≡ k
length-first_chunks n zero xs = refl
length-first_chunks n (suc k) xs = ap suc (length-first_chunks n k (drop n xs))

-- a lump of whole records holds as many records as its length says
pub length-records_of : {R : Type 0} (at : List ℕ → R) (n k : ℕ) (bytes : List ℕ) → 0 < n → length bytes ≡ n * k → length (records_of at n bytes) ≡ k
length-records_of at n k bytes some whole =
    let many : length bytes / n ≡ k = rw whole (mul-div_cancel_left k some) in
    length-map (first_chunks n (length bytes / n) bytes) at ∙ length-first_chunks n (length bytes / n) bytes ∙ many

module _ {R : Type 0} (at : List ℕ → R) (bytes_of : R → List ℕ) (n : ℕ) where
  -- each record is encoded as n bytes, which decode to it
  pub record IsBack (x : R) : Type 0 where
    pub size : length (bytes_of x) ≡ n
    pub back : at (bytes_of x) ≡ x

  -- the records have n times as many bytes as there are records
  pub length-lump : (xs : List R) → All IsBack xs → length (flat_map bytes_of xs) ≡ n * length xs
  length-lump [] backs = omega arith
  length-lump (x ∷ xs) backs =
      let rest = length-lump xs (All-tail IsBack x xs backs) in
      let first = (All-head IsBack x xs backs).size in
      rw (length-append (bytes_of x) (flat_map bytes_of xs), rest, first, mul-suc n (length xs)) (omega arith)

  chunks-back : (xs : List R) → All IsBack xs → map at (first_chunks n (length xs) (flat_map bytes_of xs)) ≡ xs
  chunks-back [] backs = refl
  chunks-back (x ∷ xs) backs =
      let head = All-head IsBack x xs backs in
      let front : take n (bytes_of x ++ flat_map bytes_of xs) ≡ bytes_of x = take_at (bytes_of x) (flat_map bytes_of xs) n head.size in
      let behind : drop n (bytes_of x ++ flat_map bytes_of xs) ≡ flat_map bytes_of xs = drop_at (bytes_of x) (flat_map bytes_of xs) n head.size in
      let first : at (bytes_of x) ≡ x = head.back in
      rw (front, behind, first) (ap (λ ys. x ∷ ys) (chunks-back xs (All-tail IsBack x xs backs)))

  -- the records that the records' bytes hold
  pub records-back : (xs : List R) → 0 < n → All IsBack xs → records_of at n (flat_map bytes_of xs) ≡ xs
  records-back xs some backs =
      let many : length (flat_map bytes_of xs) / n ≡ length xs = rw (length-lump xs backs) (mul-div_cancel_left (length xs) some) in
      rw many (chunks-back xs backs)

  chunks-lump : (k : ℕ) (bytes : List ℕ) → k * n ≡ length bytes → AreBytes bytes
      → ((chunk : List ℕ) → AreBytes chunk → length chunk ≡ n → bytes_of (at chunk) ≡ chunk)
      → flat_map bytes_of (map at (first_chunks n k bytes)) ≡ bytes
  chunks-lump zero [] whole fits same = refl
  chunks-lump zero (b ∷ bytes) whole fits same = absurd (omega arith)
  chunks-lump (suc k) bytes whole fits same =
      let within : n ≤ length bytes = omega (arith, suc-mul k n) in
      let front : bytes_of (at (take n bytes)) ≡ take n bytes = same (take n bytes) (AreBytes-take n bytes fits) (length-take-le n bytes within) in
      let rest = chunks-lump k (drop n bytes) (omega (arith, suc-mul k n, length-drop n bytes)) (AreBytes-drop n bytes fits) same in
      rw (front, rest) (take-append-drop n bytes)

  -- the bytes of the records that whole records' bytes hold
  pub lump-back : (k : ℕ) (bytes : List ℕ) → 0 < n → length bytes ≡ n * k → AreBytes bytes
      → ((chunk : List ℕ) → AreBytes chunk → length chunk ≡ n → bytes_of (at chunk) ≡ chunk)
      → flat_map bytes_of (records_of at n bytes) ≡ bytes
  lump-back k bytes some whole fits same =
      let many : length bytes / n ≡ k = rw whole (mul-div_cancel_left k some) in
      rw many (chunks-lump k bytes (mul_comm k n ∙ sym whole) fits same)

nested_7 : (a b c d e f g : List ℕ) → (((((a ++ b) ++ c) ++ d) ++ e) ++ f) ++ g ≡ a ++ (b ++ (c ++ (d ++ (e ++ (f ++ g)))))
nested_7 a b c d e f g = simp append_assoc

-- a part of n items for each of a count, and what follows
pub part_here : (n k count : ℕ) (bytes part rest : List ℕ) → count ≡ k → length part ≡ n * k → bytes ≡ part ++ rest → (take (n * count) bytes ≡ part) × (drop (n * count) bytes ≡ rest)
part_here n k count bytes part rest same size is =
    let size' : length part ≡ n * count = rw same size in
    (rw is (take_at part rest (n * count) size'), rw is (drop_at part rest (n * count) size'))

-- parts that follow one another are the whole
pub parts_joined : (a p q r s t : List ℕ) (whole b c d e f z : List ℕ) → a ++ b ≡ whole → p ++ c ≡ b → q ++ d ≡ c → r ++ e ≡ d → s ++ f ≡ e → t ++ z ≡ f
    → (((((a ++ p) ++ q) ++ r) ++ s) ++ t) ++ z ≡ whole
parts_joined a p q r s t whole b c d e f z e0 e1 e2 e3 e4 e5 =
    nested_7 a p q r s t z ∙ ap (λ x. a ++ (p ++ (q ++ (r ++ (s ++ x))))) e5 ∙ ap (λ x. a ++ (p ++ (q ++ (r ++ x)))) e4
    ∙ ap (λ x. a ++ (p ++ (q ++ x))) e3 ∙ ap (λ x. a ++ (p ++ x)) e2 ∙ ap (λ x. a ++ x) e1 ∙ e0
