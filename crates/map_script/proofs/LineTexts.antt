-- The texts of lines, which stand one behind the other.
use Rattle.std.proofs.Common.{◌≡◌, ℕ, ◌+◌, ◌-◌, ◌<◌, ◌≤◌, List, [], ◌∷◌, ◌++◌, length, get_or, take, drop, refl, ap, ap₂, subst, sym, ◌∙◌, arith, length-append}
use Rattle.std.specs.Prelude.{zero, suc, slice_get, Some}
use Rattle.std.proofs.lemmas.List.{drop-append-le, drop_all, length-drop, take-append-le, take_all, take_at}
use Rattle.map_script.specs.Views.{AreLineEnds, begin_of, line_end_of, lines_from, text_between}
use Rattle.map_script.specs.declared.script.LineEnd.{LineEnd}

-- all of them end where the last one does, or before
pub ends_within : (from : ℕ) (es : List LineEnd) (until : ℕ) → AreLineEnds from es until → from ≤ until
ends_within from [] until is = omega (arith, is)
ends_within from (e ∷ es) until (le, rest) = omega (arith, le, ends_within e.end es until rest)

-- as many lines as ends
pub length_lines : (t : List ℕ) (from : ℕ) (es : List LineEnd) → length (lines_from t from es) ≡ length es
length_lines t from [] = refl
length_lines t from (e ∷ es) = ap suc (length_lines t e.end es)

-- ---- One line more

between_before : (t w : List ℕ) (from until : ℕ) → from ≤ until → until ≤ length t → text_between (t ++ w) from until ≡ text_between t from until
between_before t w from until le inside =
    let begins : from ≤ length t = omega (arith, le, inside) in
    let enough : until - from ≤ length (drop from t) = omega (arith, le, inside, length-drop from t) in
    ap (take (until - from)) (drop-append-le from t w begins) ∙ take-append-le (until - from) (drop from t) w enough

between_behind : (t w : List ℕ) (from until : ℕ) → from ≡ length t → until ≡ length (t ++ w) → text_between (t ++ w) from until ≡ w
between_behind t w from until begins ends =
    let le : from ≤ length t = omega (arith, begins) in
    let over : length t ≤ from = omega (arith, begins) in
    let enough : length w ≤ until - from = omega (arith, begins, ends, length-append t w) in
    ap (take (until - from)) (drop-append-le from t w le ∙ ap (λ (r : List ℕ). r ++ w) (drop_all from t over)) ∙ take_all (until - from) w enough

pub line_more : (t w : List ℕ) (from : ℕ) (es : List LineEnd) (e : LineEnd) → AreLineEnds from es (length t) → e.end ≡ length (t ++ w)
    → lines_from (t ++ w) from (es ++ e ∷ []) ≡ lines_from t from es ++ (e.number, w) ∷ []
line_more t w from [] e is ends = ap (λ (r : List ℕ). (e.number, r) ∷ []) (between_behind t w from e.end is ends)
line_more t w from (f ∷ es) e (le, rest) ends =
    ap₂ (λ (r : List ℕ) (ls : List (ℕ × List ℕ)). (f.number, r) ∷ ls) (between_before t w from f.end le (ends_within f.end es (length t) rest))
    (line_more t w f.end es e rest ends)

pub ends_more : (from : ℕ) (es : List LineEnd) (e : LineEnd) (until last : ℕ) → AreLineEnds from es until → until ≤ last → e.end ≡ last → AreLineEnds from (es ++ e ∷ []) last
ends_more from [] e until last is le at = (omega (arith, is, le, at), at)
ends_more from (f ∷ es) e until last (first, rest) le at = (first, ends_more f.end es e until last rest le at)

-- the same, as the code states it
pub line_added : (t new w : List ℕ) (es last : List LineEnd) (e : LineEnd) (number : ℕ) → AreLineEnds 0 es (length t) → new ≡ t ++ w → last ≡ es ++ e ∷ []
    → e.number ≡ number → e.end ≡ length new → lines_from new 0 last ≡ lines_from t 0 es ++ (number, w) ∷ []
line_added t new w es last e number are is more numbered ends =
    ap₂ (λ (u : List ℕ) (fs : List LineEnd). lines_from u 0 fs) is more
    ∙ line_more t w 0 es e are (ends ∙ ap length is)
    ∙ ap (λ (n : ℕ). lines_from t 0 es ++ (n, w) ∷ []) numbered

pub ends_added : (t new w : List ℕ) (es last : List LineEnd) (e : LineEnd) → AreLineEnds 0 es (length t) → new ≡ t ++ w → last ≡ es ++ e ∷ []
    → e.end ≡ length new → AreLineEnds 0 last (length new)
ends_added t new w es last e are is more ends =
    let longer : length t ≤ length new = omega (arith, ap length is, length-append t w) in
    subst (λ (fs : List LineEnd). AreLineEnds 0 fs (length new)) (sym more) (ends_more 0 es e (length t) (length new) are longer ends)

-- the end of a line more, whose number and end are these
pub end_added : (es last : List LineEnd) (e : LineEnd) (number end : ℕ) → e.number ≡ number → e.end ≡ end → last ≡ es ++ e ∷ [] → last ≡ es ++ line_end_of number end ∷ []
end_added es last e number end numbered ends is = is ∙ ap₂ (λ (n m : ℕ). es ++ line_end_of n m ∷ []) numbered ends

-- a text that was cut where it ended before
pub cut_back : (t new w cut : List ℕ) (n : ℕ) → n ≡ length t → new ≡ t ++ w → cut ≡ take n new → cut ≡ t
cut_back t new w cut n at more is = is ∙ ap₂ (λ (k : ℕ) (u : List ℕ). take k u) at more ∙ take_at t w (length t) refl

-- ---- The line at a place

begin_first : (from : ℕ) (es : List LineEnd) → begin_of from es 0 ≡ from
begin_first from [] = refl
begin_first from (e ∷ es) = refl

pub begin_behind : (from : ℕ) (es : List LineEnd) (i : ℕ) (d : LineEnd) → i < length es → begin_of from es (suc i) ≡ (get_or es i d).end
begin_behind from [] i d below = absurd (omega (arith, below))
begin_behind from (e ∷ es) zero d below = begin_first e.end es
begin_behind from (e ∷ es) (suc i) d below = begin_behind e.end es i d (omega (arith, below))

pub begin_before : (from : ℕ) (es : List LineEnd) (i : ℕ) (d : LineEnd) → 0 < i → i ≤ length es → (get_or es (i - 1) d).end ≡ begin_of from es i
begin_before from es zero d some le = absurd (omega (arith, some))
begin_before from es (suc i) d some le =
    let back : suc i - 1 ≡ i = omega arith in
    ap (λ k. (get_or es k d).end) back ∙ sym (begin_behind from es i d (omega (arith, le)))

pub line_at : (t : List ℕ) (from : ℕ) (es : List LineEnd) (i : ℕ) (d : LineEnd) → i < length es
    → slice_get (lines_from t from es) i ≡ Some ((get_or es i d).number, text_between t (begin_of from es i) (get_or es i d).end)
line_at t from [] i d below = absurd (omega (arith, below))
line_at t from (e ∷ es) zero d below = refl
line_at t from (e ∷ es) (suc i) d below = line_at t e.end es i d (omega (arith, below))

-- it ends behind where it begins, and within all texts
pub line_within : (from : ℕ) (es : List LineEnd) (until i : ℕ) (d : LineEnd) → AreLineEnds from es until → i < length es
    → (begin_of from es i ≤ (get_or es i d).end) × ((get_or es i d).end ≤ until)
line_within from [] until i d is below = absurd (omega (arith, below))
line_within from (e ∷ es) until zero d (le, rest) below = (le, ends_within e.end es until rest)
line_within from (e ∷ es) until (suc i) d (le, rest) below = line_within e.end es until i d rest (omega (arith, below))
