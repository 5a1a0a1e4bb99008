-- The lines of blocks, by their places.
use Rattle.std.proofs.Common.{◌≡◌, ℕ, ◌+◌, ◌-◌, ◌<◌, ◌≤◌, ◌==◌, ◌&&◌, Bool, true, false, cond, List, [], ◌∷◌, ◌++◌, length, take, drop, refl, ap, ap₂, sym, subst, ◌∙◌, arith, Option, Some, None}
use Rattle.std.specs.Prelude.{zero, suc, slice_get}
use Rattle.std.specs.List.{enumerate_from}
use Rattle.std.proofs.lemmas.List.{drop-drop, drop-take, take_all}
use Rattle.std.proofs.lemmas.Option.{get_or_from_slice_get, slice_get_within}
use Rattle.std.proofs.lemmas.List.FromFn.{length-enumerate_from}
use Rattle.map_blocks.specs.Blocks.{behind_block, lines_between, block_len, block_lines, with_places}

-- ---- The line at a place

numbered_at : (n i until : ℕ) (lines : List (ℕ × List ℕ)) (x : ℕ × List ℕ) → slice_get lines i ≡ Some x → i < until
    → drop i (take until (enumerate_from n lines)) ≡ (n + i, x) ∷ drop (suc i) (take until (enumerate_from n lines))
numbered_at n i until [] x is inside = absurd (omega (arith, slice_get_within [] i x is))
numbered_at n i zero (l ∷ ls) x is inside = absurd (omega (arith, inside))
numbered_at n zero (suc u) (l ∷ ls) x is inside =
    let here : n ≡ n + 0 = omega arith in
    ap₂ (λ (k : ℕ) (y : ℕ × List ℕ). (k, y) ∷ take u (enumerate_from (n + 1) ls)) here (get_or_from_slice_get (l ∷ ls) 0 x l is)
numbered_at n (suc i) (suc u) (l ∷ ls) x is inside =
    let there : n + 1 + i ≡ n + suc i = omega arith in
    numbered_at (n + 1) i u ls x is (omega (arith, inside))
    ∙ ap (λ k. (k, x) ∷ drop (suc i) (take u (enumerate_from (n + 1) ls))) there

-- the lines from a place on, where a line stands there
pub next_line : (lines : List (ℕ × List ℕ)) (i until : ℕ) (x : ℕ × List ℕ) → slice_get lines i ≡ Some x → i < until
    → lines_between (with_places lines) i until ≡ (i, x) ∷ lines_between (with_places lines) (i + 1) until
next_line lines i until x is inside =
    let after : suc i ≡ i + 1 = omega arith in
    let here : 0 + i ≡ i = omega arith in
    numbered_at 0 i until lines x is inside
    ∙ ap₂ (λ (k m : ℕ). (k, x) ∷ drop m (take until (with_places lines))) here after

-- a line stands at each place
pub line_at : (lines : List (ℕ × List ℕ)) (i : ℕ) → i < length lines → (x : ℕ × List ℕ) × (slice_get lines i ≡ Some x)
line_at [] i below = absurd (omega (arith, below))
line_at (l ∷ ls) zero below = (l, refl)
line_at (l ∷ ls) (suc i) below = line_at ls i (omega (arith, below))

drop_none : {X : Type 0} (i : ℕ) → ◌≡◌ {A = List X} (drop i []) []
drop_none zero = refl
drop_none (suc i) = refl

-- no line is left
pub none_left : {X : Type 0} (i until : ℕ) (xs : List X) → until ≤ i → drop i (take until xs) ≡ []
none_left i zero xs over = drop_none i
none_left i (suc u) [] over = drop_none i
none_left zero (suc u) (x ∷ xs) over = absurd (omega (arith, over))
none_left (suc i) (suc u) (x ∷ xs) over = none_left i u xs (omega (arith, over))

-- all lines
pub all_between : (lines : List (ℕ × List ℕ)) → lines_between (with_places lines) 0 (length lines) ≡ with_places lines
all_between lines =
    let len : length (with_places lines) ≡ length lines = length-enumerate_from 0 lines in
    take_all (length lines) (with_places lines) (omega (arith, len))

-- ---- The lines of a block

take_front : {X : Type 0} (k m : ℕ) (xs : List X) → k ≤ m → take k (take m xs) ≡ take k xs
take_front zero m xs le = refl
take_front (suc k) zero xs le = absurd (omega (arith, le))
take_front (suc k) (suc m) [] le = refl
take_front (suc k) (suc m) (x ∷ xs) le = ap (λ ys. x ∷ ys) (take_front k m xs (omega (arith, le)))

front_between : (all : List (ℕ × (ℕ × List ℕ))) (from k until end : ℕ) → from + k ≤ until → end ≡ from + k → take k (lines_between all from until) ≡ lines_between all from end
front_between all from k until end le is =
    let rest : until ≡ from + (until - from) = omega (arith, le) in
    let less : k ≤ until - from = omega (arith, le) in
    ap (λ n. take k (drop from (take n all))) rest ∙ ap (take k) (drop-take from (until - from) all) ∙ take_front k (until - from) (drop from all) less
    ∙ sym (drop-take from k all) ∙ ap (λ n. drop from (take n all)) (sym is)

-- the lines of a block that begins at a place and ends at another
pub body_is : (all : List (ℕ × (ℕ × List ℕ))) (from k until end : ℕ) → k ≡ block_len 0 (lines_between all from until) → from + k ≤ until → end ≡ from + k
    → block_lines (lines_between all from until) ≡ lines_between all from end
body_is all from k until end is le at =
    ap (λ n. take n (lines_between all from until)) (sym is) ∙ front_between all from k until end le at

-- the lines behind it
pub behind_is : (all : List (ℕ × (ℕ × List ℕ))) (from k until end : ℕ) → k ≡ block_len 0 (lines_between all from until) → end ≡ from + k
    → behind_block (lines_between all from until) ≡ lines_between all (end + 1) until
behind_is all from k until end is at =
    let place : from + (k + 1) ≡ end + 1 = omega (arith, at) in
    ap (λ n. drop (n + 1) (lines_between all from until)) (sym is) ∙ drop-drop (k + 1) from (take until all) ∙ ap (λ n. drop n (take until all)) place
