-- The list has the items so far.
use Rattle.std.proofs.Common.{◌≡◌, take}
use Rattle.map_tables.proofs.map.table.Table.to_vec.Given as goal

abbrev pub invariant-loop-n : goal.invariant-loop-n
invariant-loop-n g l = l.list.items ≡ take l.n l.self.items
