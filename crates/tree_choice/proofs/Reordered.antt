-- The counts and the cost of a list are those of the list in another order.
use Rattle.std.proofs.Common.{◌≡◌, refl, sym, ◌∙◌, ℕ, suc, ◌+◌, ◌*◌, ◌-◌, ◌≤◌, List, [], ◌∷◌, length, Option, Some, None, cond, arith}
use Rattle.std.proofs.lemmas.List.Sums.{sum_by-append}
use Rattle.std.proofs.lemmas.List.Sorted.{sum_by-IsPermutation}
use Rattle.std.specs.Prelude.{filter_map, MatchOption}
use Rattle.std.specs.List.{cons_option, sum_by}
use Rattle.std.specs.List.Sorted.{IsPermutation}
use Rattle.tree_pieces.specs.declared.edge.Edge.{Edge}
use Rattle.tree_pieces.specs.declared.piece.Piece.{Piece}
use Rattle.tree_pieces.specs.Division.{parts_of}
use Rattle.tree_pieces.specs.Tree.{is_split, cost}
use Rattle.tree_pieces.proofs.Stops.{rights, lefts, splits}
use Rattle.tree_choice.specs.declared.counts.Counts.{Counts}
use Rattle.tree_choice.specs.Counts.{AreCounts}

-- how many values an option holds
abbrev pub weight : {Y : Type 0} → Option Y → ℕ
weight None = 0
weight (Some y) = 1

one_more : {Y : Type 0} (o : Option Y) (ys : List Y) → length (cons_option o ys) ≡ weight o + length ys
one_more {Y} None ys = let a : weight {Y = Y} None ≡ 0 = refl in let b : length (cons_option {X = Y} None ys) ≡ length ys = refl in omega arith
one_more {Y} (Some y) ys = let a : weight (Some y) ≡ 1 = refl in let b : length (cons_option (Some y) ys) ≡ suc (length ys) = refl in omega arith

-- what is kept of a list is the sum of what is kept of each element
pub kept_sum : {X Y : Type 0} (f : X → Option Y) (xs : List X) → length (filter_map f xs) ≡ sum_by (λ x. weight (f x)) xs
kept_sum f [] = refl
kept_sum {X} {Y} f (x ∷ xs) =
    by_numbers _ _ _ _ (sum_by (λ (z : X). weight (f z)) (x ∷ [])) (weight (f x)) (one_more (f x) (filter_map f xs))
    (kept_sum f xs) (sum_by-append (λ (z : X). weight (f z)) (x ∷ []) xs) refl
  where
    by_numbers : (a b c d e v : ℕ) → a ≡ v + b → b ≡ c → d ≡ e + c → e ≡ 0 + v → a ≡ d
    by_numbers a b c d e v s t u z = omega arith

kept_same : {X Y : Type 0} (f : X → Option Y) (xs ys : List X) → IsPermutation xs ys → length (filter_map f ys) ≡ length (filter_map f xs)
kept_same {X} {Y} f xs ys h = kept_sum f ys ∙ sum_by-IsPermutation (λ (z : X). weight (f z)) xs ys h ∙ sym (kept_sum f xs)

module _ (lines : List Edge) (p : Piece) (xs ys : List Piece) (h : IsPermutation xs ys) where
  rights_same : rights lines p ys ≡ rights lines p xs
  rights_same = kept_same (λ q. (parts_of lines p q).right) xs ys h

  lefts_same : lefts lines p ys ≡ lefts lines p xs
  lefts_same = kept_same (λ q. (parts_of lines p q).left) xs ys h

  splits_same : splits lines p ys ≡ splits lines p xs
  splits_same = sum_by-IsPermutation (λ (q : Piece). cond (is_split lines p q) 1 0) xs ys h

  cost_same : cost lines p ys ≡ cost lines p xs
  cost_same = by_numbers _ _ _ _ _ _ splits_same rights_same lefts_same
    where
      by_numbers : (s r l S R L : ℕ) → s ≡ S → r ≡ R → l ≡ L → 8 * s + ((r - l) + (l - r)) ≡ 8 * S + ((R - L) + (L - R))
      by_numbers s r l S R L e f g = omega arith

  -- a count in one order is a count in the other one
  pub reordered : (limit : ℕ) (o : Option Counts) → MatchOption o (limit ≤ cost lines p ys) (λ c. AreCounts lines p ys c) → MatchOption o (limit ≤ cost lines p xs) (λ c. AreCounts lines p xs c)
  reordered limit None m = let e = cost_same in omega arith
  reordered limit (Some c) m = record { splits = m.splits ∙ splits_same; right = m.right ∙ rights_same; left = m.left ∙ lefts_same }
