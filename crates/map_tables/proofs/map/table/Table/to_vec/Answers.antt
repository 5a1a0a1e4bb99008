-- The next item is appended to those before it.
use Rattle.std.proofs.Common.{◌∙◌, ◌<◌, ◌++◌, ◌∷◌, [], ap, length, arith, take_all}
use Rattle.std.proofs.lemmas.List.{take_more}
use Rattle.std.proofs.lemmas.Option.{get_or_from_slice_get}
use Rattle.map_tables.proofs.map.table.Table.to_vec.Goals as goal

pub loop-n-preserved : goal.loop-n-preserved
loop-n-preserved g c =
    let at : c.loop-n.n < length c.args.self.now.items = omega arith in
    let here = get_or_from_slice_get c.args.self.now.items c.loop-n.n c.at.result c.at.result c.at.ensures in
    rw (take_more c.args.self.now.items c.loop-n.n c.at.result at, here)
    (c.in_ok-push.ensures.items ∙ ap (λ xs. xs ++ c.at.result ∷ []) c.loop-n.invariant)

pub returns-clause-items : goal.returns-clause-items
returns-clause-items g c = c.loop-n.invariant ∙ take_all c.loop-n.n c.args.self.now.items (omega (arith, c.len-n-end.ensures))
