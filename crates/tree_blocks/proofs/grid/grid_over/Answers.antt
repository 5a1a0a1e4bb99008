use Rattle.std.proofs.Common.{rules, ◌∙◌, ap, get_or}
use Rattle.std.proofs.lemmas.Int.{to_z-of_z}
use Rattle.std.proofs.lemmas.List.{get_or_default}
use Rattle.std.specs.Prelude.{FitsSigned, ℤ}
use Rattle.std.specs.Int.{w16, int_min, int_max}
use Rattle.tree_blocks.proofs.GridLemmas.{no_line, corners_more, grid_found}
use Rattle.tree_blocks.proofs.grid.grid_over.Goals as goal

pub loop-line-preserved : goal.loop-line-preserved
loop-line-preserved c =
    let line = get_or c.args.lines.now c.loop-line.line-index no_line in
    let lx = c.lesser-low.ensures.x ∙ ap (λ (z : ℤ). int_min z line.end.x) c.lesser.ensures.x in
    let ly = c.lesser-low.ensures.y ∙ ap (λ (z : ℤ). int_min z line.end.y) c.lesser.ensures.y in
    let hx = c.greater-high.ensures.x ∙ ap (λ (z : ℤ). int_max z line.end.x) c.greater.ensures.x in
    let hy = c.greater-high.ensures.y ∙ ap (λ (z : ℤ). int_max z line.end.y) c.greater.ensures.y in
    corners_more c.args.lines.now (get_or c.args.lines.now 0 no_line) line c.loop-line.line-index c.loop-line.low c.loop-line.high c.lesser-low.result c.greater-high.result c.loop-line-test.true
    (get_or_default c.args.lines.now c.loop-line.line-index _ _ c.loop-line-test.true) lx ly hx hy c.loop-line.invariant

pub returns-clause-grid : goal.returns-clause-grid
returns-clause-grid c =
    let f1 : FitsSigned w16 c.loop-line.low.x = search rules in
    let e1 = to_z-of_z w16 c.loop-line.low.x f1 in
    let f2 : FitsSigned w16 c.loop-line.low.y = search rules in
    let e2 = to_z-of_z w16 c.loop-line.low.y f2 in
    let f3 : FitsSigned w16 c.loop-line.high.x = search rules in
    let e3 = to_z-of_z w16 c.loop-line.high.x f3 in
    let f4 : FitsSigned w16 c.loop-line.high.y = search rules in
    let e4 = to_z-of_z w16 c.loop-line.high.y f4 in
    let p = simp (e1, e3) at c.blocks_over.ensures.count in
    let q = simp (e2, e4) at c.blocks_over-2.ensures.count in
    rw (e1, e2) (grid_found c.args.lines.now
    (get_or c.args.lines.now 0 no_line) c.loop-line.line-index c.loop-line.low c.loop-line.high c.blocks_over.result c.blocks_over-2.result c.requires c.loop-line-test.false
    (get_or_default c.args.lines.now 0 _ _ c.requires) p q c.loop-line.invariant)

pub returns-clause-corner : goal.returns-clause-corner
returns-clause-corner c =
    let f1 : FitsSigned w16 c.loop-line.low.x = search rules in
    let e1 = to_z-of_z w16 c.loop-line.low.x f1 in
    let f2 : FitsSigned w16 c.loop-line.low.y = search rules in
    let e2 = to_z-of_z w16 c.loop-line.low.y f2 in
    (rw e1 f1, rw e2 f2)
