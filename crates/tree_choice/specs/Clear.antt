-- What the rounded ends of pieces decide of a list, and the pieces that they leave open.
use Rattle.std.specs.Prelude.{◌≡◌, ℕ, ◌+◌, ◌<◌, Bool, true, false, List, [], ◌∷◌, flat_map, length, take, drop, count_by}
use Rattle.tree_pieces.specs.declared.edge.Edge.{Edge}
use Rattle.tree_pieces.specs.declared.piece.Piece.{Piece}
use Rattle.tree_pieces.specs.Division.{right_parts, left_parts}
use Rattle.tree_pieces.specs.Tree.{is_split}
use Rattle.tree_choice.specs.declared.counts.Counts.{Counts}
use Rattle.tree_choice.specs.Counts.{AreCounts}

-- the pieces at whose places the flags say yes
abbrev pub flagged : List Bool → List Piece → List Piece
flagged [] ps = []
flagged (f ∷ fs) [] = []
flagged (true ∷ fs) (p ∷ ps) = p ∷ flagged fs ps
flagged (false ∷ fs) (p ∷ ps) = flagged fs ps

-- the pieces at these places
abbrev pub pieces_at : List Piece → List ℕ → List Piece
pieces_at ps ks = flat_map (λ k. take 1 (drop k ps)) ks

-- the counts are those of the list but for the rest
pub record AreCountsBut (lines : List Edge) (partition : Piece) (ps rest : List Piece)
    (c : Counts) : Type 0 where
  pub splits : count_by (is_split lines partition) ps
      ≡ c.splits + count_by (is_split lines partition) rest
  pub right : length (right_parts lines partition ps)
      ≡ c.right + length (right_parts lines partition rest)
  pub left : length (left_parts lines partition ps)
      ≡ c.left + length (left_parts lines partition rest)
  pub others : length ps + c.splits ≡ c.right + c.left + length rest

-- the counts are those of the piece, or else they are none, and the piece is left open
pub record IsClear (lines : List Edge) (partition p : Piece) (c : Counts) : Type 0 where
  pub counts : 0 < c.right + c.left → AreCounts lines partition (p ∷ []) c
  pub none : c.right + c.left ≡ 0 → c.splits ≡ 0
  pub one : 0 < c.right + c.left → c.right + c.left ≡ 1 + c.splits
