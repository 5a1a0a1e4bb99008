-- The search ends at the first line that passes.
use Rattle.std.proofs.Common.{◌∙◌, ◌==◌, ◌||◌, sym, arith}
use Rattle.map_tables.specs.Keyed.{is_left}
use Rattle.map_tables.proofs.ListLemmas.{none_yet, one_here}
use Rattle.map_tables.proofs.map.sides.has_line_with_key.Goals as goal

pub returns-then-has_key : goal.returns-then-has_key
returns-then-has_key c =
    sym (one_here (λ l. (l.right == c.args.key) || is_left l.left c.args.key) c.args.lines.now.items c.loop-n.n c.at.result (omega arith) c.at.ensures (sym c.has_key.ensures ∙ c.if-has_key.true))

pub loop-n-preserved : goal.loop-n-preserved
loop-n-preserved c =
    none_yet (λ l. (l.right == c.args.key) || is_left l.left c.args.key) c.args.lines.now.items c.loop-n.n c.at.result
    (omega arith) c.at.ensures c.loop-n.invariant (sym c.has_key.ensures ∙ c.if-has_key.false)
