-- The counts of a list are no greater than it is long.
use Rattle.std.proofs.Common.{ℕ, suc, ◌≤◌, List, [], ◌∷◌, length, Option, Some, None, arith}
use Rattle.std.proofs.lemmas.List.Sums.{count_by-le-length}
use Rattle.std.specs.Prelude.{filter_map}
use Rattle.std.specs.List.{cons_option}
use Rattle.tree_pieces.specs.declared.edge.Edge.{Edge}
use Rattle.tree_pieces.specs.declared.piece.Piece.{Piece}
use Rattle.tree_pieces.specs.Division.{parts_of}
use Rattle.tree_pieces.specs.Tree.{is_split}
use Rattle.tree_choice.specs.declared.counts.Counts.{Counts}
use Rattle.tree_choice.specs.Counts.{AreCounts, AreAtMost}

kept_most : {X Y : Type 0} (f : X → Option Y) (xs : List X) → length (filter_map f xs) ≤ length xs
kept_most f [] = omega arith
kept_most {X} {Y} f (x ∷ xs) = by_head (f x) (kept_most f xs)
  where
    by_head : (o : Option Y) → length (filter_map f xs) ≤ length xs → length (cons_option o (filter_map f xs)) ≤ suc (length xs)
    by_head None h = omega arith
    by_head (Some y) h = omega arith

-- the counts of a list are at most its length
pub counts_at_most : (lines : List Edge) (p : Piece) (ps : List Piece) (c : Counts) (n : ℕ) → length ps ≤ n → AreCounts lines p ps c → AreAtMost c n
counts_at_most lines p ps c n h k =
    let r = kept_most (λ q. (parts_of lines p q).right) ps in
    let l = kept_most (λ q. (parts_of lines p q).left) ps in
    let s = count_by-le-length (is_split lines p) ps in
    let kr = k.right in
    let kl = k.left in
    let ks = k.splits in
    record { splits = omega arith; right = omega arith; left = omega arith }
