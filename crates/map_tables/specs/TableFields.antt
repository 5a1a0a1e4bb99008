-- The value that the fields of a table represent, and their invariant.
use Rattle.std.specs.Prelude.{◌-◌, min, vec_len, vec_capacity}
use Rattle.slab.specs.Slab.{slab_len}
use Rattle.map_tables.specs.declared.map.table.Table.TheInside.{Inside}
use Rattle.map_tables.specs.Keys.{TableView, items_under, IsKept}

-- the items under the keys, in the order of the keys
abbrev pub view_of_table : {T : Type 0} → Inside T → TableView T
view_of_table a =
    record {
      items = items_under a.items a.order.items;
      keys = a.order.items;
      spare = min (a.items.capacity - slab_len a.items) (vec_capacity a.order - vec_len a.order);
    }

-- the keys differ, and each has an item
abbrev pub KeepsTable : {T : Type 0} → Inside T → Type 0
KeepsTable a = IsKept a.items a.order.items
