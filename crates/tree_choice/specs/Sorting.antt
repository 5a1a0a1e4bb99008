-- What is known of the first pieces of a list once their blocks have been sorted by a partition.
use Rattle.std.specs.Prelude.{◌≡◌, ℕ, ◌+◌, ◌*◌, ◌≤◌, ◌<◌, Bool, true, false, List, [], ◌∷◌, flat_map, length, All, take, drop, count_by}
use Rattle.tree_pieces.specs.declared.edge.Edge.{Edge}
use Rattle.tree_pieces.specs.declared.piece.Piece.{Piece}
use Rattle.tree_pieces.specs.Division.{right_parts, left_parts}
use Rattle.tree_pieces.specs.Tree.{is_split}
use Rattle.tree_choice.specs.declared.sorting.Sorted.{Sorted}
use Rattle.tree_choice.specs.declared.box_place.BoxSides.{BoxSides}
use Rattle.tree_choice.specs.declared.candidate.Candidate.{Candidate}
use Rattle.tree_choice.specs.Clear.{AreCountsBut}
use Rattle.tree_choice.specs.Candidates.{AreCountsBy}

-- the pieces of the blocks of these numbers
abbrev pub pieces_in : List Piece → List ℕ → List Piece
pieces_in ps ks = flat_map (λ k. take 16 (drop (16 * k) ps)) ks

-- so many pieces lie whole on the right and on the left, and all others of the first n in the open
-- blocks
pub record IsSorted (lines : List Edge) (p : Piece) (ps : List Piece) (n : ℕ) (s : Sorted)
    (noted : List ℕ) : Type 0 where
  pub right : length (right_parts lines p (take n ps)) ≡
      s.right + length (right_parts lines p (pieces_in ps (take s.count noted)))
  pub left : length (left_parts lines p (take n ps)) ≡
      s.left + length (left_parts lines p (pieces_in ps (take s.count noted)))
  pub splits : count_by (is_split lines p) (take n ps)
      ≡ count_by (is_split lines p) (pieces_in ps (take s.count noted))
  pub others : length (take n ps) ≡ s.right + s.left + length (pieces_in ps (take s.count noted))
  pub begin : All (λ k. 16 * k < length ps) (take s.count noted)
  pub few : s.count ≤ length noted
  pub fewer : 16 * s.count ≤ n + 15

abbrev pub IsSortedBy : Candidate → List Piece → ℕ → Sorted → List ℕ → Type 0
IsSortedBy by ps n s noted = IsSorted by.lines.now by.piece.now ps n s noted

-- the pieces of the block of this number
abbrev pub block_at : List Piece → ℕ → List Piece
block_at ps block = take 16 (drop (16 * block) ps)

-- on the sides that are named, the pieces of a block lie whole
pub record AreSidesOf (by : Candidate) (block : List Piece) (sides : BoxSides) : Type 0 where
  pub right : sides.right ≡ true →
      AreCountsBy by block (record { splits = 0; right = length block; left = 0 })
  pub left : sides.left ≡ true →
      AreCountsBy by block (record { splits = 0; right = 0; left = length block })

-- ---- the blocks of one run
-- at most sixteen blocks from one number to another, all of them whole
pub record IsRun (ps : List Piece) (from to : ℕ) : Type 0 where
  pub forward : from ≤ to
  pub sixteen : to ≤ from + 16
  pub whole : 16 * to ≤ length ps

-- the numbers of the flagged blocks, where the first block has this number
abbrev pub flagged_numbers : ℕ → List Bool → List ℕ
flagged_numbers k [] = []
flagged_numbers k (true ∷ fs) = k ∷ flagged_numbers (k + 1) fs
flagged_numbers k (false ∷ fs) = flagged_numbers (k + 1) fs

-- of n whole blocks, from one on, so many lie whole on the right and on the left; the flags say
-- which are left open
abbrev pub AreClearBlocks : List Edge → Piece → List Piece → ℕ → ℕ → List Bool → ℕ → ℕ → Type 0
AreClearBlocks lines p ps from n flags right left =
    AreCountsBut lines p (take (16 * n) (drop (16 * from) ps))
    (pieces_in ps (flagged_numbers from flags))
    (record { splits = 0; right = 16 * right; left = 16 * left })
