-- The first line of a text, and the lines behind it.
use Rattle.std.proofs.Common.{◌≡◌, ℕ, zero, suc, ◌+◌, ◌-◌, ◌<◌, true, false, List, [], ◌∷◌, ◌++◌, length, get_or, take, drop, flat_map, refl, ◌∙◌, ap, arith, add-one, append-nil, sym}
use Rattle.std.specs.List.{onto_first, slice_split}
use Rattle.std.proofs.lemmas.List.{take_rest}
use Rattle.std.proofs.lemmas.List.Splits.{slice_split-cons_yes, slice_split-cons_no}
use Rattle.lump_text.specs.Shown.{is_line_feed, shown_line, shown_lines}

-- if there is no LF before i, the first line is the bytes before i
split-suc : (bs : List ℕ) (i : ℕ) → ((k : ℕ) → k < i → is_line_feed (get_or bs k 0) ≡ false) → i < length bs
    → is_line_feed (get_or bs i 0) ≡ true → slice_split is_line_feed bs ≡ take i bs
    ∷ slice_split is_line_feed (drop (suc i) bs)
split-suc [] i before lt here = absurd (omega arith)
split-suc (b ∷ bs) zero before lt here = slice_split-cons_yes is_line_feed b bs here
split-suc (b ∷ bs) (suc i) before lt here =
    slice_split-cons_no is_line_feed b bs (before 0 (omega arith))
    ∙ ap (onto_first b) (split-suc bs i (λ k h. before (suc k) (omega arith)) (omega arith) here)

split-none : (bs : List ℕ) → ((k : ℕ) → k < length bs → is_line_feed (get_or bs k 0) ≡ false) → slice_split is_line_feed bs ≡ bs ∷ []
split-none [] before = refl
split-none (b ∷ bs) before =
    slice_split-cons_no is_line_feed b bs (before 0 (omega arith))
    ∙ ap (onto_first b) (split-none bs (λ k h. before (suc k) (omega arith)))

-- the lines of a text are its first line and those behind the LF
pub lines_at : (bs : List ℕ) (i : ℕ) → ((k : ℕ) → k < i → is_line_feed (get_or bs k 0) ≡ false) → i < length bs
    → is_line_feed (get_or bs i 0) ≡ true → shown_lines bs ≡ shown_line (take i bs) ++ shown_lines (take (length bs - (i + 1)) (drop (i + 1) bs))
unfolding shown_lines
lines_at bs i before lt here =
    rw (take_rest bs (i + 1), add-one) (ap (flat_map shown_line) (split-suc bs i before lt here))

-- if there is no LF, there is one line
pub lines_none : (bs : List ℕ) → ((k : ℕ) → k < length bs → is_line_feed (get_or bs k 0) ≡ false) → shown_lines bs ≡ shown_line bs ++ shown_lines []
unfolding shown_lines
lines_none bs before = ap (flat_map shown_line) (split-none bs before)

-- where no line is left, all were told
pub told_all : (told rest all : List ℕ) → length rest ≡ 0 → told ++ shown_lines rest ≡ all → told ≡ all
unfolding shown_lines
told_all told [] all none is = sym (append-nil told) ∙ is
told_all told (b ∷ bs) all none is = absurd (omega arith)
