-- The bytes at each offset of an overwritten file.
use Rattle.std.proofs.Common.{◌≡◌, ◌⊎◌, inl, inr, ◌<◌, ◌≤◌, ◌+◌, ◌-◌, ℕ, max, List, [], ◌∷◌, ◌++◌, length, get_or, take, drop, replicate, refl, sym, ◌∙◌, ap, arith, length-append, length-take, length-drop}
use Rattle.std.proofs.lemmas.List.{get_or_append_left, get_or-append-add, get_or-take, get_or-drop, get_or_past, get_or-replicate, ext_get_or}
use Rattle.std.proofs.Math.ListN.{length-replicate}
use Rattle.std.proofs.lemmas.Bool.{cases_lt}
use Rattle.store_disk.specs.Files.{Outside, Written}
use Rattle.store_disk.specs.Medium.{overwritten}

module _ (at : ℕ) (file : List ℕ) where
  -- the file up to `at`, with zeros past its end
  abbrev front : List ℕ
  front = take at (file ++ replicate (at - length file) 0)

  zeros_long : length {A = ℕ} (replicate (at - length file) 0) ≡ at - length file
  zeros_long = length-replicate {A = ℕ} (at - length file) 0

  length-front : length front ≡ at
  length-front = omega (arith, length-take at (file ++ replicate (at - length file) 0), length-append file (replicate (at - length file) 0), zeros_long)

  front_at : (i : ℕ) → i < at → get_or front i 0 ≡ get_or file i 0
  front_at i lt =
      get_or-take at (file ++ replicate (at - length file) 0) i 0 lt
      ∙ elim (cases_lt i (length file)) [
        | inl low ↦ get_or_append_left file (replicate (at - length file) 0) 0 i low
        | inr high ↦
            let j = i - length file in
            let there : i ≡ length file + j = omega (arith, high) in
            ap (λ (k : ℕ). get_or (file ++ replicate (at - length file) 0) k 0) there
            ∙ get_or-append-add file (replicate (at - length file) 0) j 0
            ∙ get_or-replicate (at - length file) j 0 0 (omega (arith, lt, high))
            ∙ sym (get_or_past file i 0 high)
      ]

  module _ (x : List ℕ) where
    abbrev whole : List ℕ
    whole = front ++ x ++ drop (at + length x) file

    length-whole : length whole ≡ max (length file) (at + length x)
    length-whole = omega (arith, length-append (front ++ x) (drop (at + length x) file), length-append front x, length-drop (at + length x) file, length-front)

    whole_below : (i : ℕ) → i < at → get_or whole i 0 ≡ get_or file i 0
    whole_below i lt =
        get_or_append_left (front ++ x) (drop (at + length x) file) 0 i (omega (arith, lt, length-append front x, length-front))
        ∙ get_or_append_left front x 0 i (omega (arith, lt, length-front)) ∙ front_at i lt

    whole_here : (i : ℕ) → i < length x → get_or whole (at + i) 0 ≡ get_or x i 0
    whole_here i lt =
        let there : at + i ≡ length front + i = omega (arith, length-front) in
        get_or_append_left (front ++ x) (drop (at + length x) file) 0 (at + i) (omega (arith, lt, length-append front x, length-front))
        ∙ ap (λ (k : ℕ). get_or (front ++ x) k 0) there ∙ get_or-append-add front x i 0

    whole_above : (i : ℕ) → at + length x ≤ i → get_or whole i 0 ≡ get_or file i 0
    whole_above i le =
        let j = i - at - length x in
        let there : i ≡ length (front ++ x) + j = omega (arith, length-append front x, length-front, le) in
        let back : at + length x + j ≡ i = omega (arith, le) in
        ap (λ (k : ℕ). get_or whole k 0) there ∙ get_or-append-add (front ++ x) (drop (at + length x) file) j 0
        ∙ get_or-drop (at + length x) file j 0 ∙ ap (λ (k : ℕ). get_or file k 0) back

pub length-overwritten : (at : ℕ) (x file : List ℕ) → 0 < length x → length (overwritten at x file) ≡ max (length file) (at + length x)
length-overwritten at [] file some = absurd (omega (arith, some))
length-overwritten at (b ∷ x) file some = length-whole at file (b ∷ x)

pub overwritten_size : (at : ℕ) (x file : List ℕ)
    → ((length x ≡ 0) × (length (overwritten at x file) ≡ length file)) ⊎ ((0 < length x) × (length (overwritten at x file) ≡ max (length file) (at + length x)))
overwritten_size at [] file = inl (refl, refl)
overwritten_size at (b ∷ x) file = inr (omega arith, length-whole at file (b ∷ x))

pub overwritten_nothing : (at : ℕ) (x file : List ℕ) → length x ≡ 0 → overwritten at x file ≡ file
overwritten_nothing at [] file none = refl
overwritten_nothing at (b ∷ x) file none = absurd (omega (arith, none))

pub overwritten_no_shorter : (at : ℕ) (x file : List ℕ) → length file ≤ length (overwritten at x file)
overwritten_no_shorter at [] file = omega arith
overwritten_no_shorter at (b ∷ x) file = omega (arith, length-whole at file (b ∷ x))

pub overwritten_here : (at : ℕ) (x file : List ℕ) (i : ℕ) → i < length x → get_or (overwritten at x file) (at + i) 0 ≡ get_or x i 0
overwritten_here at [] file i lt = absurd (omega (arith, lt))
overwritten_here at (b ∷ x) file i lt = whole_here at file (b ∷ x) i lt

-- also past the end
pub overwritten_out : (at : ℕ) (x file : List ℕ) (i : ℕ) → Outside at (length x) i → get_or (overwritten at x file) i 0 ≡ get_or file i 0
overwritten_out at [] file i out = refl
overwritten_out at (b ∷ x) file i (inl below) = whole_below at file (b ∷ x) i below
overwritten_out at (b ∷ x) file i (inr above) = whole_above at file (b ∷ x) i above

-- it is the file after the write
pub overwritten_is_written : (at : ℕ) (x file : List ℕ) → Written at x file (overwritten at x file)
overwritten_is_written at x file = record {
  has = λ some. record { within = omega (arith, length-overwritten at x file some); same = λ i lt. overwritten_here at x file i lt };
  gap = λ i past before. overwritten_out at x file i (inl before) ∙ get_or_past file i 0 past;
  keeps = record { same = λ i lt out. overwritten_out at x file i out; no_shorter = overwritten_no_shorter at x file };
  long = λ some. length-overwritten at x file some;
  nothing = λ none. ap length (overwritten_nothing at x file none);
}

-- what a read returns from a file that is the first bytes of a list, with zeros after them, also past the end
pub byte_at : (b : List ℕ) (len : ℕ) → len ≤ length b → ((i : ℕ) → len ≤ i → get_or b i 0 ≡ 0) → (i : ℕ) → get_or (take len b) i 0 ≡ get_or b i 0
byte_at b len room zeros i = elim (cases_lt i len) [
  | inl lt ↦ get_or-take len b i 0 lt
  | inr le ↦ get_or_past (take len b) i 0 (omega (arith, le, length-take len b)) ∙ sym (zeros i le)
]

-- the bytes written over the old ones
abbrev pub put : ℕ → List ℕ → List ℕ → List ℕ
put at x b = take at b ++ (x ++ drop (length x) (drop at b))

module _ (at : ℕ) (x b : List ℕ) (fits : at + length x ≤ length b) where
  front_size : length (take at b) ≡ at
  front_size = omega (arith, length-take at b, fits)

  pub length-put : length (put at x b) ≡ length b
  length-put = omega (
    arith,
    length-append (take at b) (x ++ drop (length x) (drop at b)),
    length-append x (drop (length x) (drop at b)),
    length-drop (length x) (drop at b),
    length-drop at b,
    front_size,
    fits,
  )

  put_below : (i : ℕ) → i < at → get_or (put at x b) i 0 ≡ get_or b i 0
  put_below i lt = get_or_append_left (take at b) (x ++ drop (length x) (drop at b)) 0 i (omega (arith, lt, front_size)) ∙ get_or-take at b i 0 lt

  put_here : (i : ℕ) → i < length x → get_or (put at x b) (at + i) 0 ≡ get_or x i 0
  put_here i lt =
      let there : at + i ≡ length (take at b) + i = omega (arith, front_size) in
      ap (λ (k : ℕ). get_or (put at x b) k 0) there ∙ get_or-append-add (take at b) (x ++ drop (length x) (drop at b)) i 0 ∙ get_or_append_left x (drop (length x) (drop at b)) 0 i lt

  pub put_above : (i : ℕ) → at + length x ≤ i → get_or (put at x b) i 0 ≡ get_or b i 0
  put_above i le =
      let j = i - at - length x in
      let there : i ≡ length (take at b) + (length x + j) = omega (arith, front_size, le) in
      let back : at + (length x + j) ≡ i = omega (arith, le) in
      ap (λ (k : ℕ). get_or (put at x b) k 0) there ∙ get_or-append-add (take at b) (x ++ drop (length x) (drop at b)) (length x + j) 0 ∙ get_or-append-add x (drop (length x) (drop at b)) j 0
      ∙ get_or-drop (length x) (drop at b) j 0 ∙ get_or-drop at b (length x + j) 0 ∙ ap (λ (k : ℕ). get_or b k 0) back

  -- in a file that is the first bytes of a list, with zeros after them
  module _ (len : ℕ) (room : len ≤ length b) (zeros : (i : ℕ) → len ≤ i → get_or b i 0 ≡ 0) where
    new_at : (i : ℕ) → i < max len (at + length x) → get_or (put at x b) i 0 ≡ get_or (overwritten at x (take len b)) i 0
    new_at i lt = elim (cases_lt i at) [
      | inl below ↦ put_below i below ∙ sym (byte_at b len room zeros i) ∙ sym (overwritten_out at x (take len b) i (inl below))
      | inr low ↦ elim (cases_lt i (at + length x)) [
        | inl high ↦
            let j = i - at in
            let there : i ≡ at + j = omega (arith, low) in
            ap (λ (k : ℕ). get_or (put at x b) k 0) there ∙ put_here j (omega (arith, low, high)) ∙ sym (overwritten_here at x (take len b) j (omega (arith, low, high)))
            ∙ ap (λ (k : ℕ). get_or (overwritten at x (take len b)) k 0) (sym there)
        | inr above ↦ put_above i above ∙ sym (byte_at b len room zeros i) ∙ sym (overwritten_out at x (take len b) i (inr above))
      ]
    ]

    pub put_is_overwritten : 0 < length x → take (max len (at + length x)) (put at x b) ≡ overwritten at x (take len b)
    put_is_overwritten some =
        let size : length (take (max len (at + length x)) (put at x b)) ≡ max len (at + length x) = omega (arith, length-take (max len (at + length x)) (put at x b), length-put, room, fits) in
        ext_get_or 0 (take (max len (at + length x)) (put at x b)) (overwritten at x (take len b)) (omega (arith, size, length-overwritten at x (take len b) some, length-take len b, room))
        (λ i lt.
        let within : i < max len (at + length x) = omega (arith, lt, size) in
        get_or-take (max len (at + length x)) (put at x b) i 0 within ∙ new_at i within)
