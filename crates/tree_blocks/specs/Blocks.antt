-- The grid of blocks over a map's lines, and the list of lines of each block.
use Rattle.std.specs.Prelude.{◌≡◌, ℕ, ◌+◌, ◌*◌, ◌/◌, ◌%◌, ◌<◌, ◌≤◌, ◌↔◌, List, [], ◌∷◌, map, length, get_or, fold, ℤ, pos, ◌+ℤ◌, ◌-ℤ◌, unsigned_abs, AllPairs, Contains, flat_map, slice_get, Some}
use Rattle.std.specs.Int.{int_min, int_max}
use Rattle.lump_records.specs.declared.records.Line.{Line}
use Rattle.lump_records.specs.declared.records.Vertex.{Vertex}
use Rattle.map_tables.specs.Tables.{Tables}
use Rattle.map_tables.specs.WellFormed.{nth_vertex}
use Rattle.tree_blocks.specs.declared.line_ends.LineEnds.{LineEnds}
use Rattle.tree_blocks.specs.declared.grid.Grid.{Grid}
use Rattle.tree_blocks.specs.Touch.{Touches}

-- the places of a line's ends
abbrev pub ends_in : List Vertex → Line → LineEnds
ends_in vertices l = record { start = nth_vertex vertices l.v1; end = nth_vertex vertices l.v2 }

-- the places of the ends of each line of a list of records, by its number, with the list of vertices that the lines
-- name
abbrev pub ends_over : List Vertex → List Line → List LineEnds
ends_over vertices lines = map (ends_in vertices) lines

-- the places of the ends of each line of a map
abbrev pub map_ends : Tables → List LineEnds
map_ends m = ends_over m.vertices m.lines

-- all ends of the lines
abbrev pub both_ends : List LineEnds → List Vertex
both_ends lines = flat_map (λ e. e.start ∷ e.end ∷ []) lines

abbrev pub lowest : List ℤ → ℤ
lowest [] = pos 0
lowest (z ∷ zs) = fold int_min z zs

abbrev pub highest : List ℤ → ℤ
highest [] = pos 0
highest (z ∷ zs) = fold int_max z zs

-- how many blocks of side 128 cover the span from `low` to `high`, both included
abbrev pub blocks_over : ℤ → ℤ → ℕ
blocks_over low high = unsigned_abs (high -ℤ low) / 128 + 1

-- the grid over the lines: where the blocks begin, and how many there are
abbrev pub grid_of : List LineEnds → Grid
grid_of lines =
    let xs = map (λ v. v.x) (both_ends lines) in
    let ys = map (λ v. v.y) (both_ends lines) in
    record {
      left = lowest xs;
      bottom = lowest ys;
      columns = blocks_over (lowest xs) (highest xs);
      rows = blocks_over (lowest ys) (highest ys);
    }

abbrev pub block_count : Grid → ℕ
block_count g = g.columns * g.rows

-- the lower left corner of a block; blocks are counted row by row from the lowest
abbrev pub block_left : Grid → ℕ → ℤ
block_left g n = g.left +ℤ pos (128 * (n % g.columns))

abbrev pub block_bottom : Grid → ℕ → ℤ
block_bottom g n = g.bottom +ℤ pos (128 * (n / g.columns))

-- the line touches the block with this number
abbrev pub TouchesBlock : LineEnds → Grid → ℕ → Type 0
TouchesBlock line g n = Touches line.start line.end (block_left g n) (block_bottom g n)

-- the line with number k touches block n
pub record LineTouches (lines : List LineEnds) (g : Grid) (n k : ℕ) : Type 0 where
  pub line : LineEnds
  pub is_line : slice_get lines k ≡ Some line
  pub touches : TouchesBlock line g n

-- the list has exactly the numbers of the lines that touch the block, in rising order
pub record IsBlockList (lines : List LineEnds) (g : Grid) (n : ℕ) (list : List ℕ) : Type 0 where
  pub rising : AllPairs (λ j k. j < k) list
  pub exactly : (k : ℕ) → Contains list k ↔ LineTouches lines g n k

-- these are the lists of all blocks of the grid
pub record AreBlockLists (lines : List LineEnds) (g : Grid) (lists : List (List ℕ)) : Type 0 where
  pub count : length lists ≡ block_count g
  pub each : (n : ℕ) → n < length lists → IsBlockList lines g n (get_or lists n [])

-- the grid has at least one column, and at most 512 columns and rows
pub record IsGrid (g : Grid) : Type 0 where
  pub columns : g.columns ≤ 512
  pub rows : g.rows ≤ 512
  pub some_column : 0 < g.columns
