-- What `blockmap` returns.
use Rattle.std.specs.Prelude.{◌≡◌, ◌≢◌, ℕ, ◌<◌, ◌≤◌, List, [], length, All}
use Rattle.map_tables.specs.Tables.{Tables}
use Rattle.tree_blocks.specs.declared.line_ends.LineEnds.{LineEnds}
use Rattle.tree_blocks.specs.Blocks.{grid_of, map_ends, AreBlockLists}
use Rattle.tree_blocks.specs.Layout.{ListsBlocks, OffsetsFit, blockmap_words, word_bytes}
use Rattle.tree_blocks.specs.declared.error.BlockmapError.{BlockmapError}
use Rattle.tree_blocks.specs.declared.error.BlockmapError.TheVariants.{NothingToBuild, BlockmapTooLarge, OutOfMemory}

-- the words are the layout of the blocks' lists, and every offset fits
pub record IsLaidOut (lines : List LineEnds) (words : List ℕ) : Type 0 where
  pub lists : List (List ℕ)
  pub are_lists : AreBlockLists lines (grid_of lines) lists
  pub words_are : words ≡ blockmap_words (grid_of lines) lists
  pub fit : OffsetsFit lists

-- an offset in the layout of the blocks' lists is too great
pub record IsTooLarge (lines : List LineEnds) : Type 0 where
  pub lists : List (List ℕ)
  pub are_lists : AreBlockLists lines (grid_of lines) lists
  pub too_large : ¬ OffsetsFit lists

-- the bytes of words of sixteen bits in which each block lists exactly the lines that touch it
pub record IsBlockmapOver (lines : List LineEnds) (bytes : List ℕ) : Type 0 where
  pub some_line : lines ≢ []
  pub words : List ℕ
  pub bytes_are : bytes ≡ word_bytes words
  pub sixteen_bits : All (λ w. w < 65536) words
  pub lists : ListsBlocks lines words
  pub laid_out : IsLaidOut lines words
  pub short : length words ≤ 65536

-- the refusal has its cause
abbrev pub RefusesBlockmapOver : List LineEnds → BlockmapError → Type 0
RefusesBlockmapOver lines NothingToBuild = lines ≡ []
RefusesBlockmapOver lines BlockmapTooLarge = (lines ≢ []) × IsTooLarge lines
RefusesBlockmapOver lines OutOfMemory = Unit {0}

-- the bytes are the blockmap of a map's lines
abbrev pub IsBlockmap : Tables → List ℕ → Type 0
IsBlockmap m bytes = IsBlockmapOver (map_ends m) bytes

-- why a map's lines have no blockmap
abbrev pub RefusesBlockmap : Tables → BlockmapError → Type 0
RefusesBlockmap m e = RefusesBlockmapOver (map_ends m) e
