-- The table has as many items as were put into it.
use Rattle.std.proofs.Common.{◌∙◌, ap, length, take_all, arith}
use Rattle.std.proofs.lemmas.List.{length-take}
use Rattle.map_tables.proofs.map.table.Table.of.Goals as goal

pub push-requires : goal.push-requires
push-requires g c =
    omega (arith, ap length c.loop-item.invariant, length-take c.loop-item.item-index c.args.list.now, c.requires)

pub returns-clause-items : goal.returns-clause-items
returns-clause-items g c = c.loop-item.invariant ∙ take_all c.loop-item.item-index c.args.list.now (omega arith)
