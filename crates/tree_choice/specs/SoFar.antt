-- The best candidate among the first pieces of a list.
use Rattle.std.specs.Prelude.{◌≡◌, ℕ, ◌+◌, ◌*◌, ◌-◌, ◌<◌, ◌≤◌, List, Bool, length, count_by, nat_eq, nat_le, ◌||◌, if◌then◌else◌, slice_get, Option, Some, None, ◌⊎◌}
use Rattle.tree_pieces.specs.declared.edge.Edge.{Edge}
use Rattle.tree_pieces.specs.declared.piece.Piece.{Piece}
use Rattle.tree_pieces.specs.Division.{right_parts, left_parts}
use Rattle.tree_pieces.specs.Tree.{is_split, cost, IsCandidate}
use Rattle.tree_choice.specs.declared.choice.Choice.{Choice}
use Rattle.tree_choice.specs.declared.counts.Counts.{Counts}
use Rattle.tree_choice.specs.Counts.{cost_by}

-- the candidate of a choice is the first of those that cost least among the first n pieces
pub record IsBestBefore (lines : List Edge) (ps : List Piece) (used : List Bool) (n : ℕ)
    (c : Choice) : Type 0 where
  pub piece : Piece
  pub stands : slice_get ps c.at ≡ Some piece
  pub candidate : IsCandidate lines ps used piece
  pub least : (j : ℕ) (q : Piece) → j < n → slice_get ps j ≡ Some q → IsCandidate lines ps used q →
      cost lines piece ps ≤ cost lines q ps
  pub first : (j : ℕ) (q : Piece) → j < c.at → slice_get ps j ≡ Some q
      → IsCandidate lines ps used q →
      cost lines piece ps < cost lines q ps
  pub splits : c.splits ≡ count_by (is_split lines piece) ps
  pub right : c.right ≡ length (right_parts lines piece ps)
  pub left : c.left ≡ length (left_parts lines piece ps)

-- no number that a cost of a list stays below
abbrev pub no_bound : ℕ
no_bound = 18446744073709551615

-- what is known after the first n pieces: the best one, or that each candidate costs the bound or more
abbrev pub SoFar : List Edge → List Piece → List Bool → ℕ → ℕ → Option Choice → Type 0
SoFar lines ps used bound n None =
    (j : ℕ) (q : Piece) → j < n → slice_get ps j ≡ Some q → IsCandidate lines ps used q →
    bound ≤ cost lines q ps
SoFar lines ps used bound n (Some c) = IsBestBefore lines ps used n c

-- what another candidate must cost less than
abbrev pub limit_by : ℕ → Option Choice → ℕ
limit_by bound None = bound
limit_by bound (Some c) = 8 * c.splits + ((c.right - c.left) + (c.left - c.right))

-- the best candidate, with a counted piece taken in: it must separate, and cost less than the limit
abbrev pub taken_in : ℕ → ℕ → Option Choice → Option Counts → Option Choice
taken_in limit at best None = best
taken_in limit at best (Some c) =
    (if nat_eq c.left 0 || nat_le limit (cost_by c)
    then best
    else Some (record { at = at; splits = c.splits; right = c.right; left = c.left }))

-- some candidate of the list costs less than this
pub record IsUndercut (lines : List Edge) (ps : List Piece) (used : List Bool) (bound : ℕ) : Type 0
  where
    pub place : ℕ
    pub piece : Piece
    pub stands : slice_get ps place ≡ Some piece
    pub candidate : IsCandidate lines ps used piece
    pub below : cost lines piece ps < bound

-- the choice, if there is one, costs less than this
abbrev pub IsBound : List Edge → List Piece → List Bool → ℕ → Type 0
IsBound lines ps used bound = (bound ≡ no_bound) ⊎ IsUndercut lines ps used bound
