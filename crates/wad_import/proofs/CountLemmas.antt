-- What lines reach, one by one.
use Rattle.std.proofs.Common.{◌≡◌, ◌∙◌, ℕ, ◌+◌, ◌<◌, Bool, true, false, not, cond, List, [], ◌∷◌, ◌++◌, length, get_or, take, max, refl, ap, arith}
use Rattle.std.specs.Prelude.{filter}
use Rattle.std.proofs.lemmas.List.{append-nil, take_more}
use Rattle.std.proofs.lemmas.List.Recursion.{max_push}
use Rattle.lump_records.specs.declared.records.Line.{Line}
use Rattle.wad_levels.specs.Drawn.{DrawnLists}
use Rattle.wad_levels.specs.Lengths.{has_no_length}
use Rattle.wad_import.specs.Imported.{line_reach, vertex_reach}

-- what those of the lines reach that stay
abbrev pub reach_of : DrawnLists → List Line → ℕ
reach_of d xs = vertex_reach (filter (λ x. not (has_no_length d x)) xs)

filter-push : (p : Line → Bool) (xs : List Line) (x : Line) → filter p (xs ++ x ∷ []) ≡ filter p xs ++ cond (p x) (x ∷ []) []
filter-push p [] x = refl
filter-push p (y ∷ ys) x = by (p y) (filter-push p ys x)
  where
    by : (t : Bool) → filter p (ys ++ x ∷ []) ≡ filter p ys ++ cond (p x) (x ∷ []) []
        → cond t (y ∷ filter p (ys ++ x ∷ [])) (filter p (ys ++ x ∷ [])) ≡ cond t (y ∷ filter p ys) (filter p ys) ++ cond (p x) (x ∷ []) []
    by true e = ap (λ zs. y ∷ zs) e
    by false e = e

max-none : (n : ℕ) → n ≡ max n 0
max-none n = omega arith

-- one line more
pub reach_more : (d : DrawnLists) (xs : List Line) (n : ℕ) (e : Line) → n < length xs
    → reach_of d (take (n + 1) xs) ≡ max (reach_of d (take n xs)) (line_reach d (get_or xs n e))
reach_more d xs n e h =
    let x = get_or xs n e in
    let keeps = λ (x : Line). not (has_no_length d x) in
    ap (reach_of d) (take_more xs n e h) ∙ ap vertex_reach (filter-push keeps (take n xs) x) ∙ by x (filter keeps (take n xs)) (has_no_length d x)
  where
    by : (x : Line) (ys : List Line) (t : Bool) → vertex_reach (ys ++ cond (not t) (x ∷ []) []) ≡ max (vertex_reach ys) (cond t 0 (max (x.v1 + 1) (x.v2 + 1)))
    by x ys true = ap vertex_reach (append-nil ys) ∙ max-none (vertex_reach ys)
    by x ys false = max_push vertex_reach (λ (y : Line). max (y.v1 + 1) (y.v2 + 1)) refl (λ _ _. refl) ys x
