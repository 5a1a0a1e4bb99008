-- The search ends at the first side with the key.
use Rattle.std.proofs.Common.{◌≡◌, ◌==◌, true, false, sym, arith, rules}
use Rattle.map_tables.proofs.ListLemmas.{none_yet, one_here}
use Rattle.map_tables.proofs.map.sectors.has_side_with.Goals as goal

pub returns-then-at-key : goal.returns-then-at-key
returns-then-at-key c =
    let passes : (c.at.result.sector == c.args.key) ≡ true = search rules in
    sym (one_here (λ s. s.sector == c.args.key) c.args.sides.now.items c.loop-n.n c.at.result (omega arith) c.at.ensures passes)

pub loop-n-preserved : goal.loop-n-preserved
loop-n-preserved c =
    let fails : (c.at.result.sector == c.args.key) ≡ false = search rules in
    none_yet (λ s. s.sector == c.args.key) c.args.sides.now.items c.loop-n.n c.at.result (omega arith) c.at.ensures c.loop-n.invariant fails
