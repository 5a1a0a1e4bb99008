use Rattle.std.proofs.Common.{◌≡◌, sym, ap, ◌∙◌, arith}
use Rattle.map_plane.specs.declared.places.PlacedLine.{PlacedLine}
use Rattle.map_plane.specs.Meeting.{is_on}
use Rattle.map_plane.specs.Places.{placed, placed_lines}
use Rattle.map_plane.proofs.LineReads.{is_there, none_yet, first_there, none_there, placed_there, length-placed_lines}
use Rattle.map_plane.proofs.found.line_at.Goals as goal

pub unwrap-line-requires : goal.unwrap-line-requires
unwrap-line-requires c = is_there c.args.map.now.tables.lines c.loop-n.n _ c.line.ensures.item (omega arith)

pub returns-then-is_on : goal.returns-then-is_on
returns-then-is_on c =
    let m = c.args.map.now.tables in
    first_there (λ (l : PlacedLine). is_on l c.args.place) (placed_lines m) c.loop-n.n _ (placed m (c.loop-n.n, c.unwrap-line.result))
    (placed_there m c.loop-n.n c.unwrap-line.result (sym c.line.ensures.item ∙ c.unwrap-line.ensures)) c.loop-n.invariant
    (ap (λ (l : PlacedLine). is_on l c.args.place) (sym c.placed.ensures) ∙ sym c.is_on.ensures ∙ c.if-is_on.true) (omega arith)

pub loop-n-preserved : goal.loop-n-preserved
loop-n-preserved c =
    let m = c.args.map.now.tables in
    none_yet (λ (l : PlacedLine). is_on l c.args.place) (placed_lines m) c.loop-n.n (placed m (c.loop-n.n, c.unwrap-line.result))
    (placed_there m c.loop-n.n c.unwrap-line.result (sym c.line.ensures.item ∙ c.unwrap-line.ensures)) c.loop-n.invariant
    (ap (λ (l : PlacedLine). is_on l c.args.place) (sym c.placed.ensures) ∙ sym c.is_on.ensures ∙ c.if-is_on.false)

pub returns : goal.returns
returns c =
    let m = c.args.map.now.tables in
    none_there (λ (l : PlacedLine). is_on l c.args.place) (placed_lines m) c.loop-n.n
    (omega (arith, length-placed_lines m, c.count-n-end.ensures.number, c.loop-n-test.false)) c.loop-n.invariant
