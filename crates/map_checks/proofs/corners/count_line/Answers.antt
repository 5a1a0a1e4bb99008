use Rattle.std.proofs.Common.{◌≡◌, true, List, subst, sym, ◌∙◌, arith}
use Rattle.lump_records.specs.Sides.{has_left}
use Rattle.map_checks.specs.Corners.{Edge}
use Rattle.map_checks.specs.Tallies.{AddsEdges}
use Rattle.map_checks.proofs.EdgeCounts.{adds_both, edges_of_one, edges_of_two, room_after, side_was}
use Rattle.map_checks.proofs.ItemReads.{is_there}
use Rattle.map_checks.proofs.SideLemmas.{has_left-true}
use Rattle.map_checks.proofs.corners.count_line.Goals as goal

pub count_edge-requires-then-has_left : goal.count_edge-requires-then-has_left
count_edge-requires-then-has_left c = room_after _ _ _ c.requires.room c.in_ok-count_edge.ensures

pub unwrap-left-requires : goal.unwrap-left-requires
unwrap-left-requires c =
    let line = c.args.line.now in
    let h : has_left line ≡ true = sym c.has_left.ensures ∙ c.if-has_left.true in
    let within = c.requires.sides.left (has_left-true line h) in
    is_there c.args.map.now.tables.sides c.from-then-has_left.result _ c.side-then-has_left.ensures.item
    (omega (arith, within, c.from-then-has_left.ensures))

pub returns-in_ok-count_edge-2 : goal.returns-in_ok-count_edge-2
returns-in_ok-count_edge-2 c =
    let m = c.args.map.now.tables in
    let line = c.args.line.now in
    let right = side_was m c.from.result line.right c.unwrap-right.result (sym c.side.ensures.item ∙ c.unwrap-right.ensures) c.from.ensures in
    let left = side_was m c.from-then-has_left.result line.left c.unwrap-left.result
    (sym c.side-then-has_left.ensures.item ∙ c.unwrap-left.ensures) c.from-then-has_left.ensures in
    subst (λ (es : List Edge). AddsEdges c.args.degrees.now c.count_edge-then-has_left.new.degrees es)
    (sym (edges_of_two m line c.unwrap-right.result c.unwrap-left.result right left (sym c.has_left.ensures ∙ c.if-has_left.true)))
    (adds_both _ _ _ _ _ c.in_ok-count_edge.ensures c.in_ok-count_edge-2.ensures)

pub returns-else-has_left : goal.returns-else-has_left
returns-else-has_left c =
    let m = c.args.map.now.tables in
    let line = c.args.line.now in
    let right = side_was m c.from.result line.right c.unwrap-right.result (sym c.side.ensures.item ∙ c.unwrap-right.ensures) c.from.ensures in
    subst (λ (es : List Edge). AddsEdges c.args.degrees.now c.count_edge.new.degrees es)
    (sym (edges_of_one m line c.unwrap-right.result right (sym c.has_left.ensures ∙ c.if-has_left.false)))
    c.in_ok-count_edge.ensures
