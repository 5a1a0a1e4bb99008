use Rattle.std.proofs.Common.{◌≡◌, true, false, ◌∙◌, ap, sym}
use Rattle.std.specs.Prelude.{is_some}
use Rattle.lump_records.specs.declared.records.Line.{Line}
use Rattle.map_shapes.specs.Doors.{opening}
use Rattle.map_shapes.proofs.Items.{any_at, none_more}
use Rattle.map_shapes.proofs.door.has_opening.Goals as goal

pub returns-then-is_some : goal.returns-then-is_some
returns-then-is_some c =
    let m = c.args.map.now.tables in
    sym (any_at (λ (l : Line). is_some (opening m.sides c.args.sector l)) m.lines c.loop-n.n c.nth_line.result c.nth_line.ensures.item
    (ap is_some (sym c.opening.ensures.value) ∙ sym c.is_some.ensures ∙ c.if-is_some.true))

pub loop-n-preserved : goal.loop-n-preserved
loop-n-preserved c =
    let m = c.args.map.now.tables in
    none_more (λ (l : Line). is_some (opening m.sides c.args.sector l)) m.lines c.loop-n.n c.nth_line.result c.nth_line.ensures.item c.loop-n.invariant
    (ap is_some (sym c.opening.ensures.value) ∙ sym c.is_some.ensures ∙ c.if-is_some.false)
