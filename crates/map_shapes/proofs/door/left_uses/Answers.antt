use Rattle.std.proofs.Common.{◌+◌, ◌∙◌, ap, ap₂, sym, arith}
use Rattle.std.specs.Prelude.{◌==◌, if◌then◌else◌}
use Rattle.lump_records.specs.declared.records.Line.{Line}
use Rattle.map_shapes.proofs.Items.{sum_more}
use Rattle.map_shapes.proofs.door.left_uses.Goals as goal

pub loop-n-preserved : goal.loop-n-preserved
loop-n-preserved c = (
  ap₂ (λ a b. a + b) c.loop-n.invariant.0 c.one_if-uses.ensures.value
      ∙ sym (sum_more (λ (l : Line). if l.left == c.args.side then 1 else 0) c.args.map.now.tables.lines c.loop-n.n c.nth_line.result c.nth_line.ensures.item),
  omega (arith, c.loop-n.invariant.1, c.one_if-uses.ensures.few),
)
