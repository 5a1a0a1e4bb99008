-- The table has the items so far.
use Rattle.std.proofs.Common.{◌≡◌, take}
use Rattle.map_tables.proofs.map.table.Table.of.Given as goal

abbrev pub invariant-loop-item : goal.invariant-loop-item
invariant-loop-item g l = l.table.items ≡ take l.item-index l.list
