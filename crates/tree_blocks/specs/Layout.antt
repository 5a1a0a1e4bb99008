-- The words of BLOCKMAP: the offset of each block's list, and the lists (docs/FORMAT.md, "REJECT and BLOCKMAP").
use Rattle.std.specs.Prelude.{◌≡◌, ℕ, ◌+◌, ◌<◌, ◌≤◌, Bool, nat_eq, if◌then◌else◌, List, [], ◌∷◌, ◌++◌, map, fold, length, get_or, slice_index, take, drop, All, flat_map}
use Rattle.std.specs.List.{list_any, position_or_len}
use Rattle.std.specs.Cmp.Lexicographic.{pointwise}
use Rattle.std.specs.Int.{w16, cast_unsigned}
use Rattle.lump_records.specs.Fields.{unsigned}
use Rattle.tree_blocks.specs.declared.grid.Grid.{Grid}
use Rattle.tree_blocks.specs.declared.line_ends.LineEnds.{LineEnds}
use Rattle.tree_blocks.specs.Blocks.{grid_of, block_count, IsBlockList}

-- the word that ends a list
abbrev pub list_end : ℕ
list_end = 65535

-- the greatest offset that is the same as a signed and as an unsigned word
abbrev pub greatest_offset : ℕ
greatest_offset = 32767

-- a block's list as words
abbrev pub list_words : List ℕ → List ℕ
list_words list = 0 ∷ list ++ list_end ∷ []

-- the offsets of lists that follow one another from an offset on
abbrev pub starts : ℕ → List (List ℕ) → List ℕ
starts at [] = []
starts at (list ∷ lists) = at ∷ starts (at + length (list_words list)) lists

-- two lists have the same numbers
abbrev pub same_numbers : List ℕ → List ℕ → Bool
same_numbers a b = pointwise nat_eq a b

-- the lists, with one more appended if it isn't among them
abbrev pub noted : List (List ℕ) → List ℕ → List (List ℕ)
noted lists list = if list_any (same_numbers list) lists then lists else lists ++ list ∷ []

-- each list once, in the order in which they first occur
abbrev pub once : List (List ℕ) → List (List ℕ)
once lists = fold noted [] lists

-- the index of a list among others
abbrev pub place_in : List (List ℕ) → List ℕ → ℕ
place_in written list = position_or_len (same_numbers list) written

-- the offset of the first list: after the header and an offset for each block
abbrev pub first_list : List (List ℕ) → ℕ
first_list lists = 4 + length lists

-- the offset of a list, if equal lists are written once
abbrev pub offset_of : List (List ℕ) → List ℕ → ℕ
offset_of lists list =
    get_or (starts (first_list lists) (once lists)) (place_in (once lists) list) 0

-- the offset of each block's list
abbrev pub offsets : List (List ℕ) → List ℕ
offsets lists = map (offset_of lists) lists

-- no offset is greater than the greatest allowed one
abbrev pub OffsetsFit : List (List ℕ) → Type 0
OffsetsFit lists = All (λ at. at ≤ greatest_offset) (offsets lists)

-- the header: the origin, and the numbers of columns and rows
abbrev pub header : Grid → List ℕ
header g = cast_unsigned w16 g.left ∷ cast_unsigned w16 g.bottom ∷ g.columns ∷ g.rows ∷ []

-- the whole lump for the blocks' lists
abbrev pub blockmap_words : Grid → List (List ℕ) → List ℕ
blockmap_words g lists = header g ++ offsets lists ++ flat_map list_words (once lists)

-- the bytes of words, the lower byte first
abbrev pub word_bytes : List ℕ → List ℕ
word_bytes words = flat_map unsigned words

-- the words from offset `at` on begin with these
abbrev pub HasWordsAt : List ℕ → ℕ → List ℕ → Type 0
HasWordsAt words at part = take (length part) (drop at words) ≡ part

-- the words at the block's offset are 0, the numbers of the lines that touch the block in rising order, and the end
pub record BlockStands (lines : List LineEnds) (words : List ℕ) (n : ℕ) : Type 0 where
  pub list : List ℕ
  pub exactly : IsBlockList lines (grid_of lines) n list
  pub stands : HasWordsAt words (slice_index words (4 + n)) (list_words list)

-- the header is the grid's, and each block lists exactly the lines that touch it
pub record ListsBlocks (lines : List LineEnds) (words : List ℕ) : Type 0 where
  pub grid : HasWordsAt words 0 (header (grid_of lines))
  pub each : (n : ℕ) → n < block_count (grid_of lines) → BlockStands lines words n
