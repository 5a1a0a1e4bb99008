-- The blocks that a line touches, column by column, and the lists of the blocks, line by line.
use Rattle.std.proofs.Common.{◌≡◌, sym, ◌∙◌, subst, ℕ, ◌+◌, ◌*◌, ◌<◌, ◌≤◌, ◌⊎◌, inl, inr, List, [], ◌∷◌, ◌++◌, length, get_or, arith}
use Rattle.std.specs.Prelude.{◌↔◌, ◌/◌, ◌%◌, pos, ◌+ℤ◌, AllPairs, Contains, All, slice_get, Some}
use Rattle.std.proofs.lemmas.List.Elements.{All-push, All-weaker, All-get_or, Contains-append_left, Contains-push, Contains-push_cases}
use Rattle.std.proofs.lemmas.List.Quantifiers.{all_pairs_push}
use Rattle.std.proofs.lemmas.Option.{slice_get_within}
use Rattle.std.proofs.Math.Nat.{mod-lt, div-lt_iff_lt-mul}
use Rattle.tree_blocks.specs.declared.line_ends.LineEnds.{LineEnds}
use Rattle.tree_blocks.specs.declared.grid.Grid.{Grid}
use Rattle.tree_blocks.specs.Touch.{Touches}
use Rattle.tree_blocks.specs.Rows.{TouchesRow, IsRowRange, NoRowBelow, NoColumnBelow, NoColumnFrom}
use Rattle.tree_blocks.specs.Filing.{Filed, Files, InColumn}
use Rattle.tree_blocks.specs.Blocks.{TouchesBlock, LineTouches, AreBlockLists, block_count, block_left, block_bottom}
use Rattle.tree_blocks.proofs.RowLemmas.{row_range-touches, touches-column}
use Rattle.tree_blocks.proofs.FilingLemmas.{files_both, files_as, files_none, lt_or_le}

some_same : {X : Type 0} (x y : X) → Some x ≡ Some y → x ≡ y
some_same x y e = cc

-- the line touches the block, which is in a column before this one
abbrev pub Before : LineEnds → Grid → ℕ → ℕ → Type 0
Before line g column n = (n % g.columns < column) × TouchesBlock line g n

-- a line touches a block if it touches the block's row in its column
in_row : (line : LineEnds) (g : Grid) (column n : ℕ) → n % g.columns ≡ column → TouchesBlock line g n → TouchesRow line.start line.end (g.left +ℤ pos (128 * column)) g.bottom (n / g.columns)
in_row line g column n e t = subst (λ (k : ℕ). Touches line.start line.end (g.left +ℤ pos (128 * k)) (block_bottom g n)) e t

of_row : (line : LineEnds) (g : Grid) (column n : ℕ) → n % g.columns ≡ column → TouchesRow line.start line.end (g.left +ℤ pos (128 * column)) g.bottom (n / g.columns) → TouchesBlock line g n
of_row line g column n e t = subst (λ (k : ℕ). Touches line.start line.end (g.left +ℤ pos (128 * k)) (block_bottom g n)) (sym e) t

-- the next column, with the rows that the line touches there
pub column_files :
    (line : LineEnds) (g : Grid) (column low high k : ℕ) (old mid new : List (List ℕ)) → ((n : ℕ) → n < length old → n / g.columns < g.rows)
    → IsRowRange line.start line.end (g.left +ℤ pos (128 * column)) g.bottom g.rows low high → Files (Before line g column) k old mid → Files (InColumn g.columns column low (high + 1)) k mid new
    → Files (Before line g (column + 1)) k old new
column_files line g column low high k old mid new rows range p r =
    files_both (Before line g column) (InColumn g.columns column low (high + 1)) (Before line g (column + 1)) k old mid new
    (λ n b i. let x = b.0 in let y = i.0 in omega arith) either p r
  where
    split : (n : ℕ) → n < length old → Before line g (column + 1) n → (n % g.columns < column) ⊎ (column ≤ n % g.columns) → Before line g column n ⊎ InColumn g.columns column low (high + 1) n
    split n h b (inl x) = inl (x, b.1)
    split n h b (inr x) =
        let y = b.0 in
        let e : n % g.columns ≡ column = omega arith in
        let w = (row_range-touches line.start line.end (g.left +ℤ pos (128 * column)) g.bottom g.rows low high range (n / g.columns) (rows n h)).0 (in_row line g column n e b.1) in
        let u : (n / g.columns) ≤ high = w.1 in
        inr (e, w.0, omega arith)

    join : (n : ℕ) → n < length old → Before line g column n ⊎ InColumn g.columns column low (high + 1) n → Before line g (column + 1) n
    join n h (inl b) = let x = b.0 in (omega arith, b.1)
    join n h (inr i) =
        let e = i.0 in
        let u = i.2 in
        let v : (n / g.columns) ≤ high = omega arith in
        let t = (row_range-touches line.start line.end (g.left +ℤ pos (128 * column)) g.bottom g.rows low high range (n / g.columns) (rows n h)).1 (i.1, v) in
        (omega arith, of_row line g column n e t)

    either : (n : ℕ) → n < length old → Before line g (column + 1) n ↔ (Before line g column n ⊎ InColumn g.columns column low (high + 1) n)
    either n h = (λ b. split n h b (lt_or_le (n % g.columns) column), join n h)

-- the next column, if the line touches no row there
pub column_skipped :
    (line : LineEnds) (g : Grid) (column k : ℕ) (old new : List (List ℕ)) → ((n : ℕ) → n < length old → n / g.columns < g.rows)
    → NoRowBelow line.start line.end (g.left +ℤ pos (128 * column)) g.bottom g.rows → Files (Before line g column) k old new → Files (Before line g (column + 1)) k old new
column_skipped line g column k old new rows none p =
    files_as (Before line g column) (Before line g (column + 1)) k old new (λ n h. (λ b. only n h b (lt_or_le (n % g.columns) column), λ b. let x = b.0 in (omega arith, b.1))) p
  where
    only : (n : ℕ) → n < length old → Before line g (column + 1) n → (n % g.columns < column) ⊎ (column ≤ n % g.columns) → Before line g column n
    only n h b (inl x) = (x, b.1)
    only n h b (inr x) = let y = b.0 in let e : n % g.columns ≡ column = omega arith in absurd (none (n / g.columns) (rows n h) (in_row line g column n e b.1))

div_among : (columns rows n : ℕ) → 0 < columns → n < rows * columns → n / columns < rows
div_among columns rows n h lt = (div-lt_iff_lt-mul {k = columns} {x = n} {y = rows} h).1 lt

mod_among : (columns n : ℕ) → 0 < columns → n % columns < columns
mod_among columns n h = mod-lt n {m = columns} h

-- a block of the grid is in one of its rows
pub row_among : (g : Grid) (count n : ℕ) → 0 < g.columns → count ≡ g.columns * g.rows → n < count → n / g.columns < g.rows
row_among g count n h e lt =
    let swapped : g.columns * g.rows ≡ g.rows * g.columns = omega arith in
    div_among g.columns g.rows n h (omega (arith, e, swapped, lt))

-- no column before the first that the line's box reaches
pub no_columns : (line : LineEnds) (g : Grid) (first k : ℕ) (lists : List (List ℕ)) → NoColumnBelow line.start.x line.end.x g.left first → Files (Before line g first) k lists lists
no_columns line g first k lists none =
    files_none (Before line g first) k lists
    (λ n h b. none (n % g.columns) b.0 (touches-column line.start line.end (block_left g n) (block_bottom g n) b.1))

-- all columns that it reaches
pub all_columns :
    (line : LineEnds) (g : Grid) (column end k : ℕ) (old new : List (List ℕ)) → 0 < g.columns → end ≤ column → NoColumnFrom line.start.x line.end.x g.left end g.columns
    → Files (Before line g column) k old new → Files (TouchesBlock line g) k old new
all_columns line g column end k old new some all none p =
    files_as (Before line g column) (TouchesBlock line g) k old new (λ n h. (λ t. (inside n t (lt_or_le (n % g.columns) column), t), λ b. b.1)) p
  where
    inside : (n : ℕ) → TouchesBlock line g n → (n % g.columns < column) ⊎ (column ≤ n % g.columns) → n % g.columns < column
    inside n t (inl x) = x
    inside n t (inr x) =
        absurd (none (n % g.columns) (omega (arith, x, all)) (mod_among g.columns n some) (touches-column line.start line.end (block_left g n) (block_bottom g n) t))

-- ---- the lists after the first k lines
pub record IsFiled (lines : List LineEnds) (g : Grid) (n k : ℕ) (list : List ℕ) : Type 0 where
  pub rising : AllPairs (λ i j. i < j) list
  pub below : All (λ j. j < k) list
  pub exactly : (j : ℕ) → Contains list j ↔ ((j < k) × LineTouches lines g n j)

pub record AreFiled (lines : List LineEnds) (g : Grid) (k : ℕ) (lists : List (List ℕ)) : Type 0 where
  pub count : length lists ≡ block_count g
  pub each : (n : ℕ) → n < length lists → IsFiled lines g n k (get_or lists n [])

-- one more line
filed_more :
    (lines : List LineEnds) (g : Grid) (n k : ℕ) (line : LineEnds) (old new : List ℕ) → slice_get lines k ≡ Some line → IsFiled lines g n k old → Filed (TouchesBlock line g n) k old new
    → IsFiled lines g n (k + 1) new
filed_more lines g n k line old new at f (inl p) =
    subst (λ (xs : List ℕ). IsFiled lines g n (k + 1) xs) (sym p.1)
    (record {
      rising = all_pairs_push (λ i j. i < j) old k f.rising (λ i d h. All-get_or (λ j. j < k) old i d h f.below);
      below = All-push (λ j. j < k + 1) old k (All-weaker (λ j. j < k) (λ j. j < k + 1) (λ j h. omega arith) old f.below) (omega arith);
      exactly = λ j. (into j, back j);
    })
  where
    into : (j : ℕ) → Contains (old ++ k ∷ []) j → (j < k + 1) × LineTouches lines g n j
    into j c =
        elim (Contains-push_cases old k j c) [
          | inl o ↦ (let r = (f.exactly j).0 o in let h = r.0 in (omega arith, r.1))
          | inr o ↦ (let e : j ≡ k = sym o in (omega arith, subst (λ (i : ℕ). LineTouches lines g n i) (sym e) (record { line = line; is_line = at; touches = p.0 })))
        ]

    back : (j : ℕ) → (j < k + 1) × LineTouches lines g n j → Contains (old ++ k ∷ []) j
    back j b = by (lt_or_le j k)
      where
        by : (j < k) ⊎ (k ≤ j) → Contains (old ++ k ∷ []) j
        by (inl h) = Contains-append_left old (k ∷ []) j ((f.exactly j).1 (h, b.1))
        by (inr h) = let u = b.0 in let e : j ≡ k = omega arith in subst (λ (i : ℕ). Contains (old ++ k ∷ []) i) (sym e) (Contains-push old k)
filed_more lines g n k line old new at f (inr p) =
    subst (λ (xs : List ℕ). IsFiled lines g n (k + 1) xs) (sym p.1)
    (record {
      rising = f.rising;
      below = All-weaker (λ j. j < k) (λ j. j < k + 1) (λ j h. omega arith) old f.below;
      exactly = λ j. (λ c. let r = (f.exactly j).0 c in let h = r.0 in (omega arith, r.1), λ b. back j b (lt_or_le j k));
    })
  where
    back : (j : ℕ) → (j < k + 1) × LineTouches lines g n j → (j < k) ⊎ (k ≤ j) → Contains old j
    back j b (inl h) = (f.exactly j).1 (h, b.1)
    back j b (inr h) =
        let u = b.0 in
        let e : j ≡ k = omega arith in
        let t = subst (λ (i : ℕ). LineTouches lines g n i) e b.1 in
        let same : t.line ≡ line = some_same t.line line (sym t.is_line ∙ at) in
        absurd (p.0 (subst (λ (l : LineEnds). TouchesBlock l g n) same t.touches))

pub are_filed-more :
    (lines : List LineEnds) (g : Grid) (k : ℕ) (line : LineEnds) (old new : List (List ℕ)) → slice_get lines k ≡ Some line → AreFiled lines g k old → Files (TouchesBlock line g) k old new
    → AreFiled lines g (k + 1) new
are_filed-more lines g k line old new at a f =
    record {
      count = f.count ∙ a.count;
      each = λ n h. let b : n < length old = subst (λ (m : ℕ). n < m) f.count h in filed_more lines g n k line (get_or old n []) (get_or new n []) at (a.each n b) (f.each n b);
    }

-- all lines
pub are_filed-lists : (lines : List LineEnds) (g : Grid) (lists : List (List ℕ)) → AreFiled lines g (length lines) lists → AreBlockLists lines g lists
are_filed-lists lines g lists a =
    record {
      count = a.count;
      each = λ n h. let f = a.each n h in record {
        rising = f.rising;
        exactly = λ j. (λ c. ((f.exactly j).0 c).1, λ t. (f.exactly j).1 (slice_get_within lines j t.line t.is_line, t));
      };
    }
