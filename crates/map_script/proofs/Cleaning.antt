-- Lines that are cleaned word by word, and scripts line by line.
use Rattle.std.proofs.Common.{◌≡◌, ℕ, zero, suc, ◌+◌, ◌-◌, ◌<◌, Bool, true, false, cond, not, List, [], ◌∷◌, ◌++◌, map, length, get_or, take, drop, refl, sym, ◌∙◌, ap, arith, add-one, append_assoc}
use Rattle.std.specs.List.{enumerate_from, filter, join_with_byte, onto_first, slice_split, take_while}
use Rattle.std.proofs.lemmas.List.{take_rest}
use Rattle.std.proofs.lemmas.List.Sums.{take_while-cons}
use Rattle.std.proofs.lemmas.List.Splits.{slice_split-cons_yes, slice_split-cons_no}
use Rattle.map_script.specs.Texts.{with_each_word}
use Rattle.map_script.specs.Words.{is_some_text, text_words}
use Rattle.map_script.specs.Views.{with_script_line}
use Rattle.std.specs.Str.Lines.{strip_carriage_return}
use Rattle.map_script.specs.Scripts.{begins_comment, cleaned, is_line_end, says_something, told_words}

behind-text : (text w : List ℕ) (ws : List (List ℕ)) → with_each_word text (w ∷ ws) ≡ text ++ (32 ∷ join_with_byte 32 (w ∷ ws))
behind-text text w [] = refl
behind-text text w (v ∷ vs) =
    behind-text (text ++ (32 ∷ w)) v vs ∙ append_assoc text (32 ∷ w) (32 ∷ join_with_byte 32 (v ∷ vs))

-- words after an empty text are joined, except for the first space
pub joined : (ws : List (List ℕ)) → drop 1 (with_each_word [] ws) ≡ join_with_byte 32 ws
joined [] = refl
joined (w ∷ ws) = ap (drop 1) (behind-text [] w ws)

-- ---- A line

-- the words of a text before its comment
abbrev pub told_in : List ℕ → List (List ℕ)
told_in text = take_while (λ w. not (begins_comment w)) (text_words text)

-- the text followed by the words of the rest is the cleaned line
abbrev pub IsCleaned : List ℕ → List ℕ → List ℕ → Type 0
IsCleaned text rest line = with_each_word text (told_in rest) ≡ with_each_word [] (told_words line)

pub cleaned_start : (line rest : List ℕ) → rest ≡ strip_carriage_return line → IsCleaned [] rest line
cleaned_start line rest e = ap (λ r. with_each_word [] (told_in r)) e

told-more : (w : List ℕ) (ws : List (List ℕ)) → begins_comment w ≡ false → take_while (λ v. not (begins_comment v)) (w ∷ ws) ≡ w ∷ take_while (λ v. not (begins_comment v)) ws
told-more w ws is_none =
    take_while-cons (λ v. not (begins_comment v)) w ws
    ∙ ap (λ t. cond (not t) (w ∷ take_while (λ v. not (begins_comment v)) ws) []) is_none

told-none : (w : List ℕ) (ws : List (List ℕ)) → begins_comment w ≡ true → take_while (λ v. not (begins_comment v)) (w ∷ ws) ≡ []
told-none w ws is_one =
    take_while-cons (λ v. not (begins_comment v)) w ws
    ∙ ap (λ t. cond (not t) (w ∷ take_while (λ v. not (begins_comment v)) ws) []) is_one

pub cleaned_more : (text rest line w behind new : List ℕ) → text_words rest ≡ w ∷ text_words behind → begins_comment w
    ≡ false → new ≡ text ++ (32 ∷ w) → IsCleaned text rest line → IsCleaned new behind line
cleaned_more text rest line w behind new e is_none is h =
    ap (λ t. with_each_word t (take_while (λ v. not (begins_comment v)) (text_words behind))) is
    ∙ sym (ap (with_each_word text) (ap (take_while (λ v. not (begins_comment v))) e ∙ told-more w (text_words behind) is_none))
    ∙ h

pub cleaned_comment : (text rest line w behind : List ℕ) → text_words rest ≡ w ∷ text_words behind → begins_comment w ≡ true → IsCleaned text rest line → drop 1 text ≡ cleaned line
cleaned_comment text rest line w behind e is_one h =
    ap (drop 1) (sym (ap (with_each_word text) (ap (take_while (λ v. not (begins_comment v))) e ∙ told-none w (text_words behind) is_one)) ∙ h)
    ∙ joined (told_words line)

pub cleaned_end : (text rest line : List ℕ) → text_words rest ≡ [] → IsCleaned text rest line → drop 1 text ≡ cleaned line
cleaned_end text rest line e h =
    ap (drop 1) (sym (ap (λ ws. with_each_word text (take_while (λ v. not (begins_comment v)) ws)) e) ∙ h) ∙ joined (told_words line)

-- ---- A script

-- the lines that have a word, if the first line has the number after this one
abbrev pub told_lines : ℕ → List (List ℕ) → List (ℕ × List ℕ)
told_lines number parts = filter says_something (enumerate_from (number + 1) (map cleaned parts))

-- if there is no LF before i, the first line is the bytes before i
lines-suc : (bs : List ℕ) (i : ℕ) → ((k : ℕ) → k < i → is_line_end (get_or bs k 0) ≡ false) → i < length bs
    → is_line_end (get_or bs i 0) ≡ true → slice_split is_line_end bs ≡ take i bs
    ∷ slice_split is_line_end (drop (suc i) bs)
lines-suc [] i before lt here = absurd (omega arith)
lines-suc (b ∷ bs) zero before lt here = slice_split-cons_yes is_line_end b bs here
lines-suc (b ∷ bs) (suc i) before lt here =
    slice_split-cons_no is_line_end b bs (before 0 (omega arith))
    ∙ ap (onto_first b) (lines-suc bs i (λ k h. before (suc k) (omega arith)) (omega arith) here)

-- the same, as the code states it
pub lines_at : (bs : List ℕ) (i : ℕ) → ((k : ℕ) → k < i → is_line_end (get_or bs k 0) ≡ false) → i < length bs
    → is_line_end (get_or bs i 0) ≡ true → slice_split is_line_end bs ≡ take i bs
    ∷ slice_split is_line_end (take (length bs - (i + 1)) (drop (i + 1) bs))
lines_at bs i before lt here = rw (take_rest bs (i + 1), add-one) (lines-suc bs i before lt here)

-- if there is no LF, there is one line
pub lines_none : (bs : List ℕ) → ((k : ℕ) → k < length bs → is_line_end (get_or bs k 0) ≡ false) → slice_split is_line_end bs ≡ bs ∷ []
lines_none [] before = refl
lines_none (b ∷ bs) before =
    slice_split-cons_no is_line_end b bs (before 0 (omega arith))
    ∙ ap (onto_first b) (lines_none bs (λ k h. before (suc k) (omega arith)))

take-line-by : (t : Bool) (ls more : List (ℕ × List ℕ)) (one : ℕ × List ℕ) → ls ++ cond t (one ∷ more) more ≡ cond t (ls ++ (one ∷ [])) ls ++ more
take-line-by true ls more one = sym (append_assoc ls (one ∷ []) more)
take-line-by false ls more one = refl

-- the first line is taken if it has a word
pub take_line : (ls : List (ℕ × List ℕ)) (n : ℕ) (line : List ℕ) (parts : List (List ℕ)) → ls ++ told_lines n (line ∷ parts) ≡ with_script_line ls (n + 1) line ++ told_lines (n + 1) parts
take_line ls n line parts = take-line-by (is_some_text (cleaned line)) ls (told_lines (n + 1) parts) (n + 1, cleaned line)
