-- Lines with numbers in place of references, word by word.
use Rattle.std.proofs.Common.{◌≡◌, ℕ, ◌+◌, ◌-◌, ◌*◌, List, [], ◌∷◌, ◌++◌, drop, refl, sym, ◌∙◌, ap, arith, Result, Ok, Err}
use Rattle.std.specs.Prelude.{min}
use Rattle.std.specs.List.{fold}
use Rattle.map_tables.specs.Tables.{Tables}
use Rattle.map_script.specs.Lines.{in_front, joined_line, words_for}
use Rattle.map_script.specs.Words.{text_words}
use Rattle.map_script.specs.declared.error.DrawError.{DrawError}
use Rattle.map_script.specs.Scopes.{Scope}
use Rattle.map_script.proofs.Cleaning as cleaning
use Rattle.map_script.specs.Texts.{with_each_word}

-- ---- Digits

-- a number with one more digit
abbrev pub with_digit : ℕ → ℕ → ℕ
with_digit n d = n * 10 + (d - 48)

least-step : (m v d : ℕ) → min m (with_digit (min m v) d) ≡ min m (with_digit v d)
least-step m v d = omega arith

-- a number above the greatest one may be replaced by it
pub least_fold : (m v : ℕ) (ds : List ℕ) → min m (fold with_digit (min m v) ds) ≡ min m (fold with_digit v ds)
least_fold m v [] = omega arith
least_fold m v (d ∷ ds) =
    sym (least_fold m (with_digit (min m v) d) ds)
    ∙ ap (λ n. min m (fold with_digit n ds)) (least-step m v d)
    ∙ least_fold m (with_digit v d) ds

-- ---- Words

-- a text followed by words, each after a space, or the words' error
abbrev pub behind : List ℕ → Result (List (List ℕ)) DrawError → Result (List ℕ) DrawError
behind text (Ok ws) = Ok (with_each_word text ws)
behind text (Err e) = Err e

-- without its first byte
abbrev pub unspaced : Result (List ℕ) DrawError → Result (List ℕ) DrawError
unspaced (Ok text) = Ok (drop 1 text)
unspaced (Err e) = Err e

pub joined_behind : (r : Result (List (List ℕ)) DrawError) → joined_line r ≡ unspaced (behind [] r)
joined_behind (Ok ws) = ap (λ t. Ok t) (sym (cleaning.joined ws))
joined_behind (Err e) = refl

-- one more word
pub behind_more : (text w : List ℕ) (r : Result (List (List ℕ)) DrawError) → behind text (in_front (Ok w) r) ≡ behind (text ++ (32 ∷ w)) r
behind_more text w (Ok ws) = refl
behind_more text w (Err e) = refl

-- no word is left
pub replaced_all : (scope : Scope) (m : Tables) (text rest command out : List ℕ) → text_words rest ≡ []
    → behind text (words_for scope m (text_words rest)) ≡ behind [] (words_for scope m (text_words command)) → out
    ≡ drop 1 text → joined_line (words_for scope m (text_words command)) ≡ Ok out
replaced_all scope m text rest command out e h is =
    joined_behind (words_for scope m (text_words command))
    ∙ ap unspaced (sym h ∙ ap (λ ws. behind text (words_for scope m ws)) e)
    ∙ ap (λ t. Ok t) (sym is)
