-- The words of a text, found from its beginning.
use Rattle.std.proofs.Common.{◌≡◌, ℕ, zero, suc, ◌+◌, ◌-◌, ◌<◌, true, false, List, [], ◌∷◌, length, get_or, take, drop, refl, sym, ◌∙◌, ap, arith, add-one}
use Rattle.std.specs.List.{filter, onto_first, slice_split}
use Rattle.std.proofs.lemmas.Bool.{both_ways}
use Rattle.std.proofs.lemmas.List.{take_rest}
use Rattle.std.proofs.lemmas.List.Splits.{slice_split-cons_yes, slice_split-cons_no}
use Rattle.map_script.specs.Words.{is_blank, is_some_text, text_words}

-- a leading blank is not part of a word
blank-front : (b : ℕ) (bs : List ℕ) → is_blank b ≡ true → text_words (b ∷ bs) ≡ text_words bs
blank-front b bs blank = ap (filter is_some_text) (slice_split-cons_yes is_blank b bs blank)

-- nor are the blanks before i
blanks-suc : (bs : List ℕ) (i : ℕ) → i < length bs → is_blank (get_or bs i 0) ≡ true → text_words (drop (suc i) bs) ≡ text_words (drop i bs)
blanks-suc [] i lt blank = absurd (omega arith)
blanks-suc (b ∷ bs) zero lt blank = sym (blank-front b bs blank)
blanks-suc (b ∷ bs) (suc i) lt blank = blanks-suc bs i (omega arith) blank

-- the same, as the code states it
pub blanks_more : (bs : List ℕ) (i : ℕ) → i < length bs → is_blank (get_or bs i 0) ≡ true → text_words (drop (i + 1) bs) ≡ text_words (drop i bs)
blanks_more bs i lt blank = rw add-one (blanks-suc bs i lt blank)

-- what follows i, as the code states it
pub words_rest : (bs : List ℕ) (i : ℕ) → text_words (take (length bs - i) (drop i bs)) ≡ text_words (drop i bs)
words_rest bs i = ap text_words (take_rest bs i)

-- if there is no blank before i, the first part is the bytes before i
parts-at : (bs : List ℕ) (i : ℕ) → ((k : ℕ) → k < i → is_blank (get_or bs k 0) ≡ false) → i < length bs
    → is_blank (get_or bs i 0) ≡ true → slice_split is_blank bs ≡ take i bs ∷ slice_split is_blank (drop (suc i) bs)
parts-at [] i before lt here = absurd (omega arith)
parts-at (b ∷ bs) zero before lt here = slice_split-cons_yes is_blank b bs here
parts-at (b ∷ bs) (suc i) before lt here =
    slice_split-cons_no is_blank b bs (before 0 (omega arith))
    ∙ ap (onto_first b) (parts-at bs i (λ k h. before (suc k) (omega arith)) (omega arith) here)

-- if there is no blank, there is one part
parts-none : (bs : List ℕ) → ((k : ℕ) → k < length bs → is_blank (get_or bs k 0) ≡ false) → slice_split is_blank bs ≡ bs ∷ []
parts-none [] before = refl
parts-none (b ∷ bs) before =
    slice_split-cons_no is_blank b bs (before 0 (omega arith))
    ∙ ap (onto_first b) (parts-none bs (λ k h. before (suc k) (omega arith)))

-- a text that isn't empty, before other parts, is a word
word-front : (w : List ℕ) (ws : List (List ℕ)) → 0 < length w → filter is_some_text (w ∷ ws) ≡ w ∷ filter is_some_text ws
word-front [] ws lt = absurd (omega arith)
word-front (b ∷ bs) ws lt = refl

-- a blank at i isn't the first byte of a text that doesn't begin with one
pub some_at : (bs : List ℕ) (i : ℕ) → is_blank (get_or bs 0 0) ≡ false → is_blank (get_or bs i 0) ≡ true → 0 < i
some_at bs zero begun here = absurd (both_ways (is_blank (get_or bs 0 0)) begun here)
some_at bs (suc i) begun here = omega arith

long-take : (bs : List ℕ) (i : ℕ) → 0 < i → i < length bs → 0 < length (take i bs)
long-take [] i some lt = absurd (omega arith)
long-take (b ∷ bs) zero some lt = absurd (omega arith)
long-take (b ∷ bs) (suc i) some lt = omega arith

-- a word ends before the first blank
pub word_at : (bs : List ℕ) (i : ℕ) → ((k : ℕ) → k < i → is_blank (get_or bs k 0) ≡ false) → is_blank (get_or bs 0 0)
    ≡ false → i < length bs → is_blank (get_or bs i 0) ≡ true → text_words bs ≡ take i bs
    ∷ text_words (take (length bs - i) (drop i bs))
word_at bs i before begun lt here =
    ap (filter is_some_text) (parts-at bs i before lt here)
    ∙ word-front (take i bs) (slice_split is_blank (drop (suc i) bs)) (long-take bs i (some_at bs i begun here) lt)
    ∙ ap (λ ws. take i bs ∷ ws) (blanks-suc bs i lt here ∙ sym (words_rest bs i))

-- the word isn't empty
pub long_at : (bs : List ℕ) (i : ℕ) → is_blank (get_or bs 0 0) ≡ false → i < length bs → is_blank (get_or bs i 0) ≡ true → 0 < length (take i bs)
long_at bs i begun lt here = long-take bs i (some_at bs i begun here) lt

-- if there is no blank, the text is a word
pub word_alone : (bs : List ℕ) → ((k : ℕ) → k < length bs → is_blank (get_or bs k 0) ≡ false) → 0 < length bs → text_words bs ≡ bs ∷ []
word_alone bs before some = ap (filter is_some_text) (parts-none bs before) ∙ word-front bs [] some
