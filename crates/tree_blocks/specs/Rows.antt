-- The rows of a column that a line touches, and the columns that its box reaches.
use Rattle.std.specs.Prelude.{ℕ, ◌*◌, ◌<◌, ◌≤◌, ℤ, pos, ◌+ℤ◌}
use Rattle.lump_records.specs.declared.records.Vertex.{Vertex}
use Rattle.tree_blocks.specs.Touch.{SpansMeet, Touches}

-- the line touches the column's block in this row; rows are counted from `bottom`
abbrev pub TouchesRow : Vertex → Vertex → ℤ → ℤ → ℕ → Type 0
TouchesRow a b left bottom r = Touches a b left (bottom +ℤ pos (128 * r))

-- the least and the greatest of the rows that the line touches in the column
pub record IsRowRange (a b : Vertex) (left bottom : ℤ) (rows low high : ℕ) : Type 0 where
  pub least : TouchesRow a b left bottom low
  pub greatest : TouchesRow a b left bottom high
  pub among : high < rows
  pub within : (r : ℕ) → r < rows → TouchesRow a b left bottom r → (low ≤ r) × (r ≤ high)

-- no row below this one is touched
abbrev pub NoRowBelow : Vertex → Vertex → ℤ → ℤ → ℕ → Type 0
NoRowBelow a b left bottom n = (r : ℕ) → r < n → TouchesRow a b left bottom r → ⊥

-- no row from this one on is touched
abbrev pub NoRowFrom : Vertex → Vertex → ℤ → ℤ → ℕ → ℕ → Type 0
NoRowFrom a b left bottom n rows = (r : ℕ) → n ≤ r → r < rows → TouchesRow a b left bottom r → ⊥

-- no column below this one meets the span from a to b; columns are counted from `left`
abbrev pub NoColumnBelow : ℤ → ℤ → ℤ → ℕ → Type 0
NoColumnBelow a b left n = (c : ℕ) → c < n → SpansMeet a b (left +ℤ pos (128 * c)) → ⊥

-- no column from this one on meets the span from a to b
abbrev pub NoColumnFrom : ℤ → ℤ → ℤ → ℕ → ℕ → Type 0
NoColumnFrom a b left n columns =
    (c : ℕ) → n ≤ c → c < columns → SpansMeet a b (left +ℤ pos (128 * c)) → ⊥
