-- Lines whose places are placed, word by word.
use Rattle.std.proofs.Common.{◌≡◌, ℕ, zero, suc, ◌-◌, ◌<◌, List, [], ◌∷◌, ◌++◌, take, drop, refl, sym, ◌∙◌, ap, arith, Result, Ok, Err}
use Rattle.std.specs.Prelude.{IfOk}
use Rattle.std.specs.List.{join_with_byte}
use Rattle.map_script.proofs.Cleaning.{joined}
use Rattle.map_script.specs.Placed.{layout_of, placed_behind, placed_corners, placed_pair, placed_words}
use Rattle.map_script.specs.Texts.{with_each_word}
use Rattle.map_script.specs.Words.{text_words}
use Rattle.map_script.specs.declared.placing.Placing.{Placing}

-- words and then others
pub each_append : (text : List ℕ) (ws vs : List (List ℕ)) → with_each_word text (ws ++ vs) ≡ with_each_word (with_each_word text ws) vs
each_append text [] vs = refl
each_append text (w ∷ ws) vs = each_append (text ++ 32 ∷ w) ws vs

-- one word more
pub each_more : (text new rest behind w : List ℕ) → text_words rest ≡ w ∷ text_words behind → new ≡ text ++ 32 ∷ w
    → with_each_word new (text_words behind) ≡ with_each_word text (text_words rest)
each_more text new rest behind w is made =
    ap (λ t. with_each_word t (text_words behind)) made ∙ sym (ap (with_each_word text) is)

-- one corner more
pub corner_more : (p : Placing) (text new rest one two x y : List ℕ) → text_words rest ≡ x ∷ text_words one → text_words one ≡ y ∷ text_words two
    → new ≡ with_each_word text ((placed_pair p x y).0 ∷ (placed_pair p x y).1 ∷ [])
    → with_each_word new (placed_corners p (text_words two)) ≡ with_each_word text (placed_corners p (text_words rest))
corner_more p text new rest one two x y first second made =
    ap (λ t. with_each_word t (placed_corners p (text_words two))) made
    ∙ sym (ap (λ ws. with_each_word text (placed_corners p ws)) (first ∙ ap (λ ws. x ∷ ws) second))

-- half a corner
pub corner_half : (p : Placing) (text new rest one x : List ℕ) → text_words rest ≡ x ∷ text_words one → text_words one ≡ [] → new ≡ text ++ 32 ∷ x
    → new ≡ with_each_word text (placed_corners p (text_words rest))
corner_half p text new rest one x first none made =
    made ∙ sym (ap (λ ws. with_each_word text (placed_corners p ws)) (first ∙ ap (λ ws. x ∷ ws) none))

-- ---- A line

-- the words of a line, placed, with single spaces between them
pub placed_joined : (p : Placing) (line head behind one two out : List ℕ) → text_words line ≡ head ∷ text_words behind → one ≡ 32 ∷ head
    → two ≡ with_each_word one (placed_behind p (layout_of head) (text_words behind)) → out ≡ drop 1 two
    → out ≡ join_with_byte 32 (placed_words p (text_words line))
placed_joined p line head behind one two out is begun made cut =
    cut ∙ ap (drop 1) (made ∙ ap (λ t. with_each_word t (placed_behind p (layout_of head) (text_words behind))) begun)
    ∙ joined (head ∷ placed_behind p (layout_of head) (text_words behind)) ∙ sym (ap (λ ws. join_with_byte 32 (placed_words p ws)) is)

take_suc : (count : ℕ) (w : List ℕ) (ws : List (List ℕ)) → 0 < count → take count (w ∷ ws) ≡ w ∷ take (count - 1) ws
take_suc zero w ws some = absurd (omega (arith, some))
take_suc (suc n) w ws some =
    let less : n ≡ suc n - 1 = omega arith in
    ap (λ k. w ∷ take k ws) less

drop_suc : (count : ℕ) (w : List ℕ) (ws : List (List ℕ)) → 0 < count → drop count (w ∷ ws) ≡ drop (count - 1) ws
drop_suc zero w ws some = absurd (omega (arith, some))
drop_suc (suc n) w ws some =
    let less : n ≡ suc n - 1 = omega arith in
    ap (λ k. drop k ws) less

-- some words, the first of them put
pub some_put : {X E : Type 0} (result : Result X E) (count : ℕ) (text made new words w behind : List ℕ) → 0 < count → text_words words ≡ w ∷ text_words behind
    → made ≡ text ++ 32 ∷ w → IfOk result (λ _. new ≡ with_each_word made (take (count - 1) (text_words behind)))
    → IfOk result (λ _. new ≡ with_each_word text (take count (text_words words)))
some_put (Err e) count text made new words w behind some is first rest = tt
some_put (Ok x) count text made new words w behind some is first rest =
    rest ∙ ap (λ t. with_each_word t (take (count - 1) (text_words behind))) first
    ∙ sym (ap (with_each_word text) (ap (take count) is ∙ take_suc count w (text_words behind) some))

-- what is left of them
some_left : (count : ℕ) (words w behind left : List ℕ) → 0 < count → text_words words ≡ w ∷ text_words behind
    → text_words left ≡ drop (count - 1) (text_words behind) → text_words left ≡ drop count (text_words words)
some_left count words w behind left some is rest = rest ∙ sym (ap (drop count) is ∙ drop_suc count w (text_words behind) some)

pub some_left_of : {X E : Type 0} (result : Result X E) (now : X → List ℕ) (count : ℕ) (words w behind : List ℕ) → 0 < count → text_words words ≡ w ∷ text_words behind
    → IfOk result (λ left. text_words (now left) ≡ drop (count - 1) (text_words behind)) → IfOk result (λ left. text_words (now left) ≡ drop count (text_words words))
some_left_of (Err e) now count words w behind some is rest = tt
some_left_of (Ok x) now count words w behind some is rest = some_left count words w behind (now x) some is rest
