use Rattle.std.proofs.Common.{◌+◌, ◌∙◌, ap, ap₂, sym, arith}
use Rattle.lump_records.specs.declared.records.Line.{Line}
use Rattle.map_shapes.specs.Doors.{jamb_of, sides_added}
use Rattle.map_shapes.proofs.Items.{sum_more}
use Rattle.map_shapes.proofs.door.lines_sides.Goals as goal

pub loop-n-preserved : goal.loop-n-preserved
loop-n-preserved c =
    let m = c.args.map.now.tables in (
      ap₂ (λ a b. a + b) c.loop-n.invariant.0 (c.sides_added-sides.ensures.value ∙ ap (sides_added m.lines) c.jamb_of.ensures.value)
          ∙ sym (sum_more (λ (l : Line). sides_added m.lines (jamb_of m c.args.door.now l)) m.lines c.loop-n.n c.nth_line.result c.nth_line.ensures.item),
      omega (arith, c.loop-n.invariant.1, c.sides_added-sides.ensures.few),
    )
