-- The words of a text, one after the other, and what stands in front of a sign.
use Rattle.std.proofs.Common.{◌≡◌, ◌∙◌, ℕ, ◌<◌, ◌==◌, Bool, true, false, List, [], ◌∷◌, length, get_or, take, refl, sym, ap, arith}
use Rattle.std.specs.Prelude.{filter}
use Rattle.std.proofs.lemmas.Bool.{true≢false}
use Rattle.std.specs.List.{slice_split}
use Rattle.std.proofs.lemmas.List.{take_all}
use Rattle.std.proofs.lemmas.List.Sums.{position_or_len_is}
use Rattle.map_script.specs.Words.{first_word, is_blank, is_some_text, text_words}
use Rattle.map_blocks.specs.Ranges.{field_name}

-- ---- The first word

none_in : (ws : List (List ℕ)) → first_word (filter is_some_text ws) ≡ [] → filter is_some_text ws ≡ []
none_in [] none = refl
none_in ([] ∷ ws) none = none_in ws none
none_in ((b ∷ bs) ∷ ws) none = absurd (true≢false (ap is_some_text none))

-- a text whose first word is empty has none
pub no_words : (text : List ℕ) → first_word (text_words text) ≡ [] → text_words text ≡ []
no_words text none = none_in (slice_split is_blank text) none

-- a word without bytes
pub no_bytes : (word : List ℕ) → length word ≡ 0 → word ≡ []
no_bytes [] none = refl
no_bytes (b ∷ bs) none = absurd (omega (arith, none))

-- ---- In front of a `=`

-- the bytes before the first one
pub field_at : (bs : List ℕ) (i : ℕ) → ((k : ℕ) → k < i → (get_or bs k 0 == 61) ≡ false) → i < length bs → (get_or bs i 0 == 61) ≡ true
    → field_name bs ≡ take i bs
field_at bs i before lt here =
    ap (λ n. take n bs) (position_or_len_is (λ b. b == 61) bs i 0 (omega arith) before (λ h. here))

-- all bytes
pub field_all : (bs : List ℕ) → ((k : ℕ) → k < length bs → (get_or bs k 0 == 61) ≡ false) → field_name bs ≡ bs
field_all bs before =
    ap (λ n. take n bs) (position_or_len_is (λ b. b == 61) bs (length bs) 0 (omega arith) before (λ h. absurd (omega (arith, h))))
    ∙ take_all (length bs) bs (omega arith)
