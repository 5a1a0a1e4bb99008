-- The search ends at the first line that passes.
use Rattle.std.proofs.Common.{◌∙◌, ◌==◌, ◌||◌, sym, arith}
use Rattle.map_tables.proofs.ListLemmas.{none_yet, one_here}
use Rattle.map_tables.proofs.map.vertices.has_line_with_end.Goals as goal

pub returns-then-has_end : goal.returns-then-has_end
returns-then-has_end c =
    sym (one_here (λ l. (l.v1 == c.args.key) || (l.v2 == c.args.key)) c.args.lines.now.items c.loop-n.n c.at.result (omega arith) c.at.ensures (sym c.has_end.ensures ∙ c.if-has_end.true))

pub loop-n-preserved : goal.loop-n-preserved
loop-n-preserved c =
    none_yet (λ l. (l.v1 == c.args.key) || (l.v2 == c.args.key)) c.args.lines.now.items c.loop-n.n c.at.result
    (omega arith) c.at.ensures c.loop-n.invariant (sym c.has_end.ensures ∙ c.if-has_end.false)
