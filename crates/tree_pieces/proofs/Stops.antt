-- What is known of a partition's cost once a part of the list has been counted.
use Rattle.std.proofs.Common.{◌≡◌, ℕ, suc, ◌+◌, ◌*◌, ◌-◌, ◌≤◌, List, [], ◌∷◌, ◌++◌, length, Option, Some, None, cond, arith}
use Rattle.std.proofs.lemmas.List.Sums.{sum_by-append}
use Rattle.std.specs.Prelude.{filter_map, count_by}
use Rattle.std.specs.List.{cons_option}
use Rattle.tree_pieces.specs.declared.edge.Edge.{Edge}
use Rattle.tree_pieces.specs.declared.piece.Piece.{Piece}
use Rattle.tree_pieces.specs.Division.{parts_of, right_parts, left_parts}
use Rattle.tree_pieces.specs.Tree.{is_split, cost}

-- the three counts of a list
abbrev pub rights : List Edge → Piece → List Piece → ℕ
rights lines p qs = length (right_parts lines p qs)

abbrev pub lefts : List Edge → Piece → List Piece → ℕ
lefts lines p qs = length (left_parts lines p qs)

abbrev pub splits : List Edge → Piece → List Piece → ℕ
splits lines p qs = count_by (is_split lines p) qs

kept_append : {X Y : Type 0} (f : X → Option Y) (xs ys : List X) → length (filter_map f (xs ++ ys)) ≡ length (filter_map f xs) + length (filter_map f ys)
kept_append f [] ys = omega arith
kept_append {X} {Y} f (x ∷ xs) ys = by_head (f x) (kept_append f xs ys)
  where
    by_head : (o : Option Y) → length (filter_map f (xs ++ ys)) ≡ length (filter_map f xs) + length (filter_map f ys)
        → length (cons_option o (filter_map f (xs ++ ys))) ≡ length (cons_option o (filter_map f xs))
        + length (filter_map f ys)
    by_head None e = e
    by_head (Some y) e = omega arith

-- a list of two parts: each count is the sum of the two
pub rights_append : (lines : List Edge) (p : Piece) (xs ys : List Piece) → rights lines p (xs ++ ys) ≡ rights lines p xs + rights lines p ys
rights_append lines p xs ys = kept_append (λ q. (parts_of lines p q).right) xs ys

pub lefts_append : (lines : List Edge) (p : Piece) (xs ys : List Piece) → lefts lines p (xs ++ ys) ≡ lefts lines p xs + lefts lines p ys
lefts_append lines p xs ys = kept_append (λ q. (parts_of lines p q).left) xs ys

pub splits_append : (lines : List Edge) (p : Piece) (xs ys : List Piece) → splits lines p (xs ++ ys) ≡ splits lines p xs + splits lines p ys
splits_append lines p xs ys = sum_by-append (λ (q : Piece). cond (is_split lines p q) 1 0) xs ys

-- one side has at most as many parts more than the other as there are pieces
at_most_each : {X Y : Type 0} (f g : X → Option Y) (xs : List X) → length (filter_map f xs) ≤ length (filter_map g xs) + length xs
at_most_each f g [] = omega arith
at_most_each {X} {Y} f g (x ∷ xs) = by_heads (f x) (g x) (at_most_each f g xs)
  where
    by_heads : (o u : Option Y) → length (filter_map f xs) ≤ length (filter_map g xs) + length xs
        → length (cons_option o (filter_map f xs)) ≤ length (cons_option u (filter_map g xs)) + suc (length xs)
    by_heads None None h = omega arith
    by_heads None (Some z) h = omega arith
    by_heads (Some y) None h = omega arith
    by_heads (Some y) (Some z) h = omega arith

pub rights_near : (lines : List Edge) (p : Piece) (qs : List Piece) → rights lines p qs ≤ lefts lines p qs + length qs
rights_near lines p qs = at_most_each (λ q. (parts_of lines p q).right) (λ q. (parts_of lines p q).left) qs

pub lefts_near : (lines : List Edge) (p : Piece) (qs : List Piece) → lefts lines p qs ≤ rights lines p qs + length qs
lefts_near lines p qs = at_most_each (λ q. (parts_of lines p q).left) (λ q. (parts_of lines p q).right) qs

-- r, l and s have been counted of the list ps; of the pieces qs nothing is known yet
pub record Counted (lines : List Edge) (p : Piece) (ps qs : List Piece) (r l s : ℕ) : Type 0 where
  pub right : rights lines p ps ≡ r + rights lines p qs
  pub left : lefts lines p ps ≡ l + lefts lines p qs
  pub splits : splits lines p ps ≡ s + splits lines p qs

-- the next block is counted
pub block_counted : (lines : List Edge) (p : Piece) (ps block qs : List Piece) (r l s a b c : ℕ)
    → Counted lines p ps (block ++ qs) r l s → rights lines p block ≡ a → lefts lines p block ≡ b → splits lines p block
    ≡ c → Counted lines p ps qs (r + a) (l + b) (s + c)
block_counted lines p ps block qs r l s a b c k x y z =
    let e = k.right in
    let f = k.left in
    let g = k.splits in
    let u = rights_append lines p block qs in
    let v = lefts_append lines p block qs in
    let w = splits_append lines p block qs in
    record { right = omega arith; left = omega arith; splits = omega arith }

-- what the cost is at least, where n pieces aren't counted yet
abbrev pub least_cost : ℕ → ℕ → ℕ → ℕ → ℕ
least_cost r l s n = 8 * s + ((r - l - n) + (l - r - n))

-- the early stop is right
pub cost_at_least : (lines : List Edge) (p : Piece) (ps qs : List Piece) (r l s : ℕ) → Counted lines p ps qs r l s → least_cost r l s (length qs) ≤ cost lines p ps
cost_at_least lines p ps qs r l s k =
    by_numbers _ _ _ r l s (rights lines p qs) (lefts lines p qs) (splits lines p qs) (length qs) k.right k.left k.splits (rights_near lines p qs) (lefts_near lines p qs)
  where
    by_numbers : (R L S r l s a b c n : ℕ) → R ≡ r + a → L ≡ l + b → S ≡ s + c → a ≤ b + n → b ≤ a + n → 8 * s + ((r - l - n) + (l - r - n)) ≤ 8 * S + ((R - L) + (L - R))
    by_numbers R L S r l s a b c n e f g h i = omega arith
