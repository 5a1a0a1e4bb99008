use Rattle.std.proofs.Common.{◌≡◌, ◌<◌, true, length, sym, ◌∙◌, arith}
use Rattle.std.proofs.lemmas.Bool.{eq-eqb, ne_eqb}
use Rattle.lump_records.specs.Sides.{has_left}
use Rattle.map_tables.specs.WellFormed.{HasSector}
use Rattle.map_checks.proofs.EdgeCounts.{side_was}
use Rattle.map_checks.proofs.ItemReads.{at_some}
use Rattle.map_lint.proofs.BorderSteps.{marks_both, marks_none}
use Rattle.map_lint.proofs.borders.mark_sides.Goals as goal

pub returns-then-right-left : goal.returns-then-right-left
returns-then-right-left c =
    let m = c.args.map.now.tables in
    let line = c.args.line.now in
    let r = c.unwrap-right.result in
    let l = c.unwrap-left.result in
    let right = side_was m c.from.result line.right r (sym c.side.ensures.item ∙ c.unwrap-right.ensures) c.from.ensures in
    let left = side_was m c.from-2.result line.left l (sym c.side-2.ensures.item ∙ c.unwrap-left.ensures) c.from-2.ensures in
    let some : has_left line ≡ true = grind (arith, c.has_left.ensures, c.if-not-has_left.false) in
    let first : r.sector < length m.sectors = at_some (HasSector m.sectors) r c.unwrap-right.ensures c.side.ensures.sector in
    let second : l.sector < length m.sectors = at_some (HasSector m.sectors) l c.unwrap-left.ensures c.side-2.ensures.sector in
    marks_both m line c.args.marks.now.items r right l left some (ne_eqb r.sector l.sector c.if-right-left.true)
    c.from-then-right-left.result c.from-then-right-left-2.result c.from-then-right-left.ensures c.from-then-right-left-2.ensures
    (omega (arith, first, c.from-then-right-left.ensures, c.requires.count)) (omega (arith, second, c.from-then-right-left-2.ensures, c.requires.count))

pub returns-else-right-left : goal.returns-else-right-left
returns-else-right-left c =
    let m = c.args.map.now.tables in
    let line = c.args.line.now in
    let r = c.unwrap-right.result in
    let l = c.unwrap-left.result in
    let right = side_was m c.from.result line.right r (sym c.side.ensures.item ∙ c.unwrap-right.ensures) c.from.ensures in
    let left = side_was m c.from-2.result line.left l (sym c.side-2.ensures.item ∙ c.unwrap-left.ensures) c.from-2.ensures in
    let some : has_left line ≡ true = grind (arith, c.has_left.ensures, c.if-not-has_left.false) in
    marks_none m line c.args.marks.now.items r right l left some (eq-eqb r.sector l.sector c.if-right-left.false)
