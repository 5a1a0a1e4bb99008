-- The search ends at the first line that passes.
use Rattle.std.proofs.Common.{◌∙◌, sym, arith}
use Rattle.std.specs.Prelude.{slice_set}
use Rattle.map_tables.specs.Keyed.{stretches}
use Rattle.map_tables.proofs.ListLemmas.{none_yet, one_here}
use Rattle.map_tables.proofs.map.vertices.has_line_stretched.Goals as goal

pub returns-then-is_stretched : goal.returns-then-is_stretched
returns-then-is_stretched c =
    sym (one_here (stretches c.args.vertices.now.keys
    (slice_set c.args.vertices.now.items c.args.moved c.args.to) c.args.moved) c.args.lines.now.items c.loop-n.n c.at.result (omega arith) c.at.ensures (sym c.is_stretched.ensures ∙ c.if-is_stretched.true))

pub loop-n-preserved : goal.loop-n-preserved
loop-n-preserved c =
    none_yet (stretches c.args.vertices.now.keys
    (slice_set c.args.vertices.now.items c.args.moved c.args.to) c.args.moved) c.args.lines.now.items c.loop-n.n c.at.result (omega arith) c.at.ensures c.loop-n.invariant (sym c.is_stretched.ensures ∙ c.if-is_stretched.false)
