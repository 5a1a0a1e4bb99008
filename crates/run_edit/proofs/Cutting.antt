-- How the lines of some bytes grow with more bytes.
use Rattle.std.proofs.Common.{◌≡◌, ℕ, ◌<◌, ◌≤◌, Bool, true, false, ◌||◌, cond, List, [], ◌∷◌, ◌++◌, length, refl, sym, ◌∙◌, ap, arith}
use Rattle.std.proofs.lemmas.List.Folds.{list_any-append}
use Rattle.std.specs.List.{list_any}
use Rattle.run_edit.specs.Lines.{is_break, onto_first_line, whole_lines, unfinished}

whole-break : (b : ℕ) (bs : List ℕ) → is_break b ≡ true → whole_lines (b ∷ bs) ≡ [] ∷ whole_lines bs
whole-break b bs e = ap (λ t. cond t ([] ∷ whole_lines bs) (onto_first_line b (whole_lines bs))) e

whole-other : (b : ℕ) (bs : List ℕ) → is_break b ≡ false → whole_lines (b ∷ bs) ≡ onto_first_line b (whole_lines bs)
whole-other b bs e = ap (λ t. cond t ([] ∷ whole_lines bs) (onto_first_line b (whole_lines bs))) e

unfinished-if : (b : ℕ) (bs : List ℕ) (t : Bool) → list_any is_break (b ∷ bs) ≡ t → unfinished (b ∷ bs) ≡ cond t (unfinished bs) (b ∷ bs)
unfinished-if b bs t e = ap (λ t. cond t (unfinished bs) (b ∷ bs)) e

or-true : (s t : Bool) → s ≡ true → (s || t) ≡ true
or-true s t e = ap (λ u. u || t) e

or-false : (s t u : Bool) → s ≡ false → t ≡ u → (s || t) ≡ u
or-false s t u e f = ap (λ w. w || t) e ∙ f

-- which of two
two : (t : Bool) {P : Type 0} → (t ≡ true → P) → (t ≡ false → P) → P
two true p q = p refl
two false p q = q refl

-- no LF, no line
pub whole-none : (bs : List ℕ) → list_any is_break bs ≡ false → whole_lines bs ≡ []
whole-none [] e = refl
whole-none (b ∷ bs) e =
    two (is_break b) (λ s. absurd (no (sym (or-true (is_break b) (list_any is_break bs) s) ∙ e)))
    (λ s. whole-other b bs s ∙ ap (onto_first_line b) (whole-none bs (sym (or-false _ _ _ s refl) ∙ e)))
  where
    no : true ≡ false → ⊥
    no h = cc

pub unfinished-none : (bs : List ℕ) → list_any is_break bs ≡ false → unfinished bs ≡ bs
unfinished-none [] e = refl
unfinished-none (b ∷ bs) e = unfinished-if b bs false e

-- a line goes on only in front
onto-append : (b : ℕ) (xs ys : List (List ℕ)) → 0 < length xs → onto_first_line b (xs ++ ys) ≡ onto_first_line b xs ++ ys
onto-append b [] ys h = absurd (omega arith)
onto-append b (x ∷ xs) ys h = refl

length-onto : (b : ℕ) (xs : List (List ℕ)) → length (onto_first_line b xs) ≡ length xs
length-onto b [] = refl
length-onto b (x ∷ xs) = refl

whole-some : (bs : List ℕ) → list_any is_break bs ≡ true → 0 < length (whole_lines bs)
whole-some [] e = cc
whole-some (b ∷ bs) e =
    two (is_break b) (λ s. let k : length (whole_lines (b ∷ bs)) ≡ length ([] ∷ whole_lines bs) = ap length (whole-break b bs s) in omega arith)
    (λ s. let k : length (whole_lines (b ∷ bs)) ≡ length (whole_lines bs) = ap length (whole-other b bs s) ∙ length-onto b (whole_lines bs) in
    let h : 0 < length (whole_lines bs) = whole-some bs (sym (or-false _ _ _ s refl) ∙ e) in omega arith)

-- the lines of more bytes
pub whole-append : (bs ys : List ℕ) → whole_lines (bs ++ ys) ≡ whole_lines bs ++ whole_lines (unfinished bs ++ ys)
whole-append [] ys = refl
whole-append (b ∷ bs) ys =
    two (is_break b)
    (λ s.
    whole-break b (bs ++ ys) s ∙ ap (λ w. [] ∷ w) (whole-append bs ys)
    ∙ sym (rw (whole-break b bs s, unfinished-if b bs true (or-true _ _ s)) refl))
    (λ s.
    two (list_any is_break bs)
    (λ t.
    whole-other b (bs ++ ys) s ∙ ap (onto_first_line b) (whole-append bs ys)
    ∙ onto-append b (whole_lines bs) (whole_lines (unfinished bs ++ ys)) (whole-some bs t)
    ∙ sym (rw (whole-other b bs s, unfinished-if b bs true (or-false _ _ _ s t)) refl))
    (λ t.
    sym (rw (whole-none (b ∷ bs) (or-false _ _ _ s t), unfinished-none (b ∷ bs) (or-false _ _ _ s t)) refl)))

or-right : (s : Bool) → (s || true) ≡ true
or-right true = refl
or-right false = refl

any-end : (bs : List ℕ) → list_any is_break (bs ++ 10 ∷ []) ≡ true
any-end [] = refl
any-end (b ∷ bs) = ap (λ t. is_break b || t) (any-end bs) ∙ or-right (is_break b)

pub unfinished-append : (bs ys : List ℕ) → unfinished (bs ++ ys) ≡ unfinished (unfinished bs ++ ys)
unfinished-append [] ys = refl
unfinished-append (b ∷ bs) ys =
    two (list_any is_break (b ∷ bs))
    (λ t.
    unfinished-if b (bs ++ ys) true (list_any-append is_break (b ∷ bs) ys ∙ or-true _ _ t) ∙ unfinished-append bs ys
    ∙ sym (ap (λ u. unfinished (u ++ ys)) (unfinished-if b bs true t)))
    (λ f. sym (ap (λ u. unfinished (u ++ ys)) (unfinished-none (b ∷ bs) f)))

left-false : (s t : Bool) → (s || t) ≡ false → s ≡ false
left-false true t e = e
left-false false t e = refl

right-false : (s t : Bool) → (s || t) ≡ false → t ≡ false
right-false true t e = cc
right-false false t e = e

-- a LF ends the line
pub whole-end : (bs : List ℕ) → list_any is_break bs ≡ false → whole_lines (bs ++ 10 ∷ []) ≡ bs ∷ []
whole-end [] e = refl
whole-end (b ∷ bs) e =
    whole-other b (bs ++ 10 ∷ []) (left-false _ _ e) ∙ ap (onto_first_line b) (whole-end bs (right-false _ _ e))

pub unfinished-end : (bs : List ℕ) → unfinished (bs ++ 10 ∷ []) ≡ []
unfinished-end [] = refl
unfinished-end (b ∷ bs) = unfinished-if b (bs ++ 10 ∷ []) true (any-end (b ∷ bs)) ∙ unfinished-end bs

-- another byte goes on with it
pub any-push : (bs : List ℕ) (b : ℕ) → list_any is_break bs ≡ false → is_break b ≡ false → list_any is_break (bs ++ b ∷ []) ≡ false
any-push bs b e f = list_any-append is_break bs (b ∷ []) ∙ or-false _ _ _ e (or-false _ _ _ f refl)

pub whole-push : (bs : List ℕ) (b : ℕ) → list_any is_break bs ≡ false → is_break b ≡ false → whole_lines (bs ++ b ∷ []) ≡ []
whole-push bs b e f = whole-none (bs ++ b ∷ []) (any-push bs b e f)

pub unfinished-push : (bs : List ℕ) (b : ℕ) → list_any is_break bs ≡ false → is_break b ≡ false → unfinished (bs ++ b ∷ []) ≡ bs ++ b ∷ []
unfinished-push bs b e f = unfinished-none (bs ++ b ∷ []) (any-push bs b e f)
