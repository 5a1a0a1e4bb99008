use Rattle.std.proofs.Common.{rules, ◌≡◌, ◌∙◌, ◌+◌, ◌*◌, ◌<◌, ◌≤◌, ℕ, length, arith}
use Rattle.std.proofs.lemmas.Int.{to_z-of_z}
use Rattle.std.proofs.lemmas.Nat.{mul-le}
use Rattle.std.proofs.Math.Nat.{mul_comm}
use Rattle.std.specs.Prelude.{FitsSigned, ◌/◌}
use Rattle.std.specs.Int.{w16, w32}
use Rattle.tree_blocks.proofs.FillLemmas.{row_among, column_files, column_skipped, no_columns, all_columns}
use Rattle.tree_blocks.proofs.RowLemmas.{rows_rise}
use Rattle.tree_blocks.proofs.fill.file_line.Goals as goal
use Rattle.tree_blocks.proofs.fill.file_line.Goals.{in-Some+in_ok-file_rows-in-Some, in-None}

-- the blocks of a column up to a row are blocks of the grid
held : (columns rows high n : ℕ) → high < rows → n ≡ columns * rows → (high + 1) * columns ≤ n
held columns rows high n h e =
    let m = mul-le (high + 1) columns rows columns (omega arith) (omega arith) in
    let k = mul_comm columns rows in
    omega arith

pub file_rows-requires-clause-all : goal.file_rows-requires-clause-all
file_rows-requires-clause-all c = held c.args.grid.columns c.args.grid.rows c.in-Some.rows.high (length c.loop-column.lists) c.in-Some.ensures.among (c.loop-column.auto.lists ∙ c.requires.all)

pub file_rows-requires-clause-order : goal.file_rows-requires-clause-order
file_rows-requires-clause-order c = rows_rise _ _ _ _ _ _ _ c.in-Some.ensures

pub loop-column-init : goal.loop-column-init
loop-column-init c =
    let f1 : FitsSigned w16 c.args.grid.left = search rules in
    let e1 = to_z-of_z w16 c.args.grid.left f1 in
    let f2 : FitsSigned w16 c.args.line.start.x = search rules in
    let e2 = to_z-of_z w16 c.args.line.start.x f2 in
    let f3 : FitsSigned w16 c.args.line.end.x = search rules in
    let e3 = to_z-of_z w16 c.args.line.end.x f3 in
    no_columns c.args.line c.args.grid c.first_column-first.result c.args.number c.args.lists.now (simp (e1, e2, e3) at c.first_column-first.ensures)

pub loop-column-preserved : goal.loop-column-preserved
loop-column-preserved c =
    let f1 : FitsSigned w16 c.args.grid.left = search rules in
    let e1 = to_z-of_z w16 c.args.grid.left f1 in
    let f2 : FitsSigned w16 c.args.grid.bottom = search rules in
    let e2 = to_z-of_z w16 c.args.grid.bottom f2 in
    let f3 : FitsSigned w32 c.side_of_strip-left.result = search rules in
    let e3 = to_z-of_z w32 c.side_of_strip-left.result f3 in
    let v = simp e1 at c.side_of_strip-left.ensures in
    let rows : (n : ℕ) → n < length c.args.lists.now
    → n / c.args.grid.columns < c.args.grid.rows = λ n h. row_among c.args.grid (length c.args.lists.now) n c.requires.grid.some_column c.requires.all h in
    elim c.match-touched_rows.branch [
      | in-Some+in_ok-file_rows-in-Some w ↦
          (let r0 = simp (e2, e3) at w.in-Some.ensures in
          let r = simp v at r0 in
          rw w.lists-is
          (column_files c.args.line c.args.grid c.loop-column.column w.in-Some.rows.low w.in-Some.rows.high c.args.number c.args.lists.now c.loop-column.lists w.file_rows.new.lists rows r
          c.loop-column.invariant w.in_ok-file_rows-in-Some.ensures.ok))
      | in-None w ↦
          (let r0 = simp (e2, e3) at w.in-None.ensures in
          let r = simp v at r0 in
          rw w.lists-is (column_skipped c.args.line c.args.grid c.loop-column.column c.args.number c.args.lists.now c.loop-column.lists rows r c.loop-column.invariant))
    ]

pub returns-clause-ok : goal.returns-clause-ok
returns-clause-ok c =
    let f1 : FitsSigned w16 c.args.grid.left = search rules in
    let e1 = to_z-of_z w16 c.args.grid.left f1 in
    let f2 : FitsSigned w16 c.args.line.start.x = search rules in
    let e2 = to_z-of_z w16 c.args.line.start.x f2 in
    let f3 : FitsSigned w16 c.args.line.end.x = search rules in
    let e3 = to_z-of_z w16 c.args.line.end.x f3 in
    let none = simp (e1, e2, e3) at c.end_column-end.ensures.none in
    all_columns c.args.line c.args.grid c.loop-column.column c.end_column-end.result c.args.number c.args.lists.now c.loop-column.lists c.requires.grid.some_column c.loop-column-test.false none
    c.loop-column.invariant
