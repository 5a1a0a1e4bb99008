-- There are as many keys as items.
use Rattle.std.proofs.Common.{ap, length, arith}
use Rattle.map_tables.proofs.TableLemmas.{count_of_items}
use Rattle.map_tables.proofs.map.table.Table.spare.Goals as goal

pub returns-clause-count : goal.returns-clause-count
returns-clause-count g c =
    let count = count_of_items c.self.inside.items c.self.inside.order.items c.self.invariant in
    let many = ap (λ v. length v.items) c.self.view_is in
    let keys = ap (λ v. length v.keys) c.self.view_is in
    omega (arith, count, many, keys)
