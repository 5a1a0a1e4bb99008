use Rattle.std.proofs.Common.{ap, length, arith}
use Rattle.map_tables.proofs.TableLemmas.{count_of_items}
use Rattle.map_tables.proofs.map.table.Table.len.Goals as goal

pub returns : goal.returns
returns g c =
    let count = count_of_items c.self.inside.items c.self.inside.order.items c.self.invariant in
    let seen = ap (λ v. length v.items) c.self.view_is in
    omega (arith, count, seen, c.len.ensures)
