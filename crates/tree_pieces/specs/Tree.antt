-- The choice of a partition, and the tree of divisions of a list of pieces.
use Rattle.std.specs.Prelude.{◌≡◌, ℕ, ◌+◌, ◌*◌, ◌-◌, ◌<◌, ◌≤◌, max, Bool, true, false, ◌&&◌, ◌⊎◌, is_some, List, [], ◌∷◌, ◌++◌, length, map, replicate, All, slice_get, slice_set, count_by, Some}
use Rattle.tree_pieces.specs.declared.edge.Edge.{Edge}
use Rattle.tree_pieces.specs.declared.piece.Piece.{Piece}
use Rattle.tree_pieces.specs.Plane.{IsEdge}
use Rattle.tree_pieces.specs.Pieces.{IsPiece}
use Rattle.tree_pieces.specs.Division.{parts_of, right_parts, left_parts, LiesInRight, LiesInLeft}

-- ---- choice
-- both parts of the piece are kept
abbrev pub is_split : List Edge → Piece → Piece → Bool
is_split lines partition p =
    let parts = parts_of lines partition p in is_some parts.right && is_some parts.left

-- a piece separates a list where some piece of the list leaves a part on its left
abbrev pub Separates : List Edge → Piece → List Piece → Type 0
Separates lines partition ps = 0 < length (left_parts lines partition ps)

-- eight for each split piece, and one for each part that one side has more than the other
abbrev pub cost : List Edge → Piece → List Piece → ℕ
cost lines partition ps =
    let front = length (right_parts lines partition ps) in
    let back = length (left_parts lines partition ps) in
    8 * count_by (is_split lines partition) ps + ((front - back) + (back - front))

-- may be chosen: a separating piece of a line that no partition above has used
abbrev pub IsCandidate : List Edge → List Piece → List Bool → Piece → Type 0
IsCandidate lines ps used p = (slice_get used p.line ≡ Some false) × Separates lines p ps

-- the candidate at the place i: none costs less, and none before it costs as little
pub record IsBestAt (lines : List Edge) (ps : List Piece) (used : List Bool) (i : ℕ) (p : Piece)
    : Type 0 where
  pub stands : slice_get ps i ≡ Some p
  pub candidate : IsCandidate lines ps used p
  pub least : (j : ℕ) (q : Piece) → slice_get ps j ≡ Some q → IsCandidate lines ps used q →
      cost lines p ps ≤ cost lines q ps
  pub first : (j : ℕ) (q : Piece) → j < i → slice_get ps j ≡ Some q → IsCandidate lines ps used q →
      cost lines p ps < cost lines q ps

-- no piece of the list may be chosen
abbrev pub HasNoChoice : List Edge → List Piece → List Bool → Type 0
HasNoChoice lines ps used =
    (i : ℕ) (p : Piece) → slice_get ps i ≡ Some p → IsCandidate lines ps used p → ⊥

-- ---- the tree
-- a leaf with its pieces, or a partition with the trees on its right and on its left
pub data Tree : Type 0 where
  Leaf : List Piece → Tree
  Branch : Piece → Tree → Tree → Tree

-- the tree of a list of pieces, where partitions above have used some lines
abbrev pub Divides : List Edge → List Piece → List Bool → Tree → Type 0
Divides lines ps used (Leaf qs) = (qs ≡ ps) × HasNoChoice lines ps used
Divides lines ps used (Branch p right left) =
    ((i : ℕ) × IsBestAt lines ps used i p) ×
    Divides lines (right_parts lines p ps) (slice_set used p.line true) right ×
    Divides lines (left_parts lines p ps) (slice_set used p.line true) left

-- no line is used
abbrev pub none_used : List Edge → List Bool
none_used lines = replicate (length lines) false

-- the tree of a list of pieces, with no line used above
pub record IsTreeOf (lines : List Edge) (ps : List Piece) (t : Tree) : Type 0 where
  pub drawn : All IsEdge lines
  pub each : All (IsPiece lines) ps
  pub divides : Divides lines ps (none_used lines) t

-- the lists of the leaves, right before left
abbrev pub leaves : Tree → List (List Piece)
leaves (Leaf ps) = ps ∷ []
leaves (Branch p right left) = leaves right ++ leaves left

-- all pieces of the leaves, in that order
abbrev pub pieces : Tree → List Piece
pieces (Leaf ps) = ps
pieces (Branch p right left) = pieces right ++ pieces left

-- how many pieces each leaf has
abbrev pub counts : Tree → List ℕ
counts t = map length (leaves t)

-- the most branches on a path
abbrev pub depth : Tree → ℕ
depth (Leaf ps) = 0
depth (Branch p right left) = 1 + max (depth right) (depth left)

-- at each branch the pieces on its right lie exactly on the right of its partition, those on its
-- left on the left
abbrev pub IsParted : List Edge → Tree → Type 0
IsParted lines (Leaf ps) = Unit {0}
IsParted lines (Branch p right left) =
    All (LiesInRight lines p) (pieces right) × All (LiesInLeft lines p) (pieces left) ×
    IsParted lines right × IsParted lines left

-- ---- the lists that a tree reaches
-- the pieces of a list lie all on one side of a partition of this line
abbrev pub HasHalf : List Edge → ℕ → List Piece → Type 0
HasHalf lines line ps =
    (h : Piece) × (h.line ≡ line) × (All (LiesInRight lines h) ps ⊎ All (LiesInLeft lines h) ps)

-- what holds of every list that a tree reaches: all pieces lie on one side of each used line
pub record IsReached (lines : List Edge) (used : List Bool) (ps : List Piece) : Type 0 where
  pub pieces : All (IsPiece lines) ps
  pub halves : (line : ℕ) → slice_get used line ≡ Some true → HasHalf lines line ps
  pub known : length used ≡ length lines
