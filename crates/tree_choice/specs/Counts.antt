-- What a partition makes of a list: how many pieces it splits, and the parts on its two sides.
use Rattle.std.specs.Prelude.{◌≡◌, ◌≤◌, ℕ, ◌+◌, ◌*◌, ◌-◌, List, length, count_by, Option, MatchOption}
use Rattle.tree_pieces.specs.declared.edge.Edge.{Edge}
use Rattle.tree_pieces.specs.declared.piece.Piece.{Piece}
use Rattle.tree_pieces.specs.Division.{right_parts, left_parts}
use Rattle.tree_pieces.specs.Tree.{is_split, cost}
use Rattle.tree_choice.specs.declared.counts.Counts.{Counts}

-- the counts are those of the list
pub record AreCounts (lines : List Edge) (partition : Piece) (ps : List Piece) (c : Counts) :
    Type 0 where
  pub splits : c.splits ≡ count_by (is_split lines partition) ps
  pub right : c.right ≡ length (right_parts lines partition ps)
  pub left : c.left ≡ length (left_parts lines partition ps)

-- the counts are those of the list, or None if its cost reaches the limit
abbrev pub AreCountsBelow : List Edge → Piece → List Piece → ℕ → Option Counts → Type 0
AreCountsBelow lines partition ps limit counted =
    MatchOption counted (limit ≤ cost lines partition ps) (λ c. AreCounts lines partition ps c)

-- the cost by the counts
abbrev pub cost_by : Counts → ℕ
cost_by c = 8 * c.splits + ((c.right - c.left) + (c.left - c.right))

-- none of the counts is above a number
pub record AreAtMost (c : Counts) (n : ℕ) : Type 0 where
  pub splits : c.splits ≤ n
  pub right : c.right ≤ n
  pub left : c.left ≤ n
