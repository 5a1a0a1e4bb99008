-- A level in which every reference is in range.
use Rattle.std.specs.Prelude.{◌≡◌, ◌≢◌, ℕ, ◌+◌, ◌*◌, ◌<◌, ◌≤◌, true, List, [], ◌∷◌, ◌++◌, length, slice_index, take, drop, All}
use Rattle.lump_records.specs.Sides.{no_side, is_two_sided}
use Rattle.lump_records.specs.declared.records.Line.{Line}
use Rattle.tree_nodes.specs.InRange.{IsIn, TreeInRange}
use Rattle.wad_build.specs.Words.{words}
use Rattle.tree_blocks.specs.Layout.{list_end, greatest_offset, HasWordsAt}
use Rattle.wad_levels.specs.Levels.{Lumps}
use Rattle.wad_build.specs.Reject.{reject_size}

-- the line's ends are vertices of the level and its sides are sides of it; only a line that isn't two-sided may
-- lack a left side
pub record LineInRange (l : Lumps) (x : Line) : Type 0 where
  pub v1 : IsIn l.vertices x.v1
  pub v2 : IsIn l.vertices x.v2
  pub right : IsIn l.sides x.right
  pub left : x.left ≢ no_side → IsIn l.sides x.left
  pub two_sided : is_two_sided x ≡ true → x.left ≢ no_side

-- the number of blocks, by the header
abbrev pub blocks_in : List ℕ → ℕ
blocks_in ws = slice_index ws 2 * slice_index ws 3

-- the list at an offset ends inside the lump and names only lines
pub record ListInRange (l : Lumps) (ws : List ℕ) (at : ℕ) : Type 0 where
  pub inside : at < length ws
  pub small : at ≤ greatest_offset
  pub list : List ℕ
  pub stands : HasWordsAt ws at (list ++ list_end ∷ [])
  pub lines : All (IsIn l.lines) list

-- each reference of the drawn lists, of the tree, and of the blocks' lists is in range
pub record IsInRange (l : Lumps) : Type 0 where
  pub lines : All (LineInRange l) l.lines
  pub sides : All (λ s. IsIn l.sectors s.sector) l.sides
  pub tree : TreeInRange l.vertices l.lines l.segs l.subs l.nodes
  pub reject : reject_size (length l.sectors) ≤ length l.reject
  pub header : 4 + blocks_in (words l.blockmap) ≤ length (words l.blockmap)
  pub lists : All (ListInRange l (words l.blockmap))
      (take (blocks_in (words l.blockmap)) (drop 4 (words l.blockmap)))
