-- There are as many keys as items.
use Rattle.std.proofs.Common.{ap, length, arith}
use Rattle.map_tables.proofs.TableLemmas.{count_of_items}
use Rattle.map_tables.proofs.map.table.Table.key.Goals as goal

pub returns-then-len-n : goal.returns-then-len-n
returns-then-len-n g c =
    let count = count_of_items c.self.inside.items c.self.inside.order.items c.self.invariant in
    let seen = ap (λ v. length v.items) c.self.view_is in
    omega (arith, count, seen)

pub returns : goal.returns
returns g c =
    let count = count_of_items c.self.inside.items c.self.inside.order.items c.self.invariant in
    let seen = ap (λ v. length v.items) c.self.view_is in
    omega (arith, count, seen)
