-- Why an edit of any item of a map is refused: each code with its test, by rising code.
use Rattle.std.specs.Prelude.{ℕ, Bool, List}
use Rattle.map_tables.specs.declared.edit.Edit.{Edit}
use Rattle.map_tables.specs.declared.edit.Edit.TheVariants.{Add, Set, Drop}
use Rattle.map_tables.specs.declared.edit.Item.{Item}
use Rattle.map_tables.specs.declared.edit.Item.TheVariants as item
use Rattle.map_tables.specs.declared.kind.Kind.{Kind}
use Rattle.map_tables.specs.declared.kind.Kind.TheVariants as kind
use Rattle.map_tables.specs.Tables.{Tables}
use Rattle.map_tables.specs.Faults.{vertex_faults, set_vertex_faults, drop_vertex_faults, sector_faults, set_sector_faults, drop_sector_faults, side_faults, set_side_faults, drop_side_faults, line_faults, set_line_faults, drop_line_faults, thing_faults, set_thing_faults, drop_thing_faults}

-- why an item can't be added
abbrev pub add_faults : Tables → Item → List (ℕ × Bool)
add_faults m (item.Vertex v) = vertex_faults m v
add_faults m (item.Sector s) = sector_faults m
add_faults m (item.Side s) = side_faults m s
add_faults m (item.Line l) = line_faults m l
add_faults m (item.Thing t) = thing_faults m

-- why an item can't replace the one with the number
abbrev pub set_faults : Tables → ℕ → Item → List (ℕ × Bool)
set_faults m n (item.Vertex v) = set_vertex_faults m n v
set_faults m n (item.Sector s) = set_sector_faults m n
set_faults m n (item.Side s) = set_side_faults m n s
set_faults m n (item.Line l) = set_line_faults m n l
set_faults m n (item.Thing t) = set_thing_faults m n

-- why the item with the number can't be removed
abbrev pub drop_faults : Tables → Kind → ℕ → List (ℕ × Bool)
drop_faults m kind.Vertex n = drop_vertex_faults m n
drop_faults m kind.Sector n = drop_sector_faults m n
drop_faults m kind.Side n = drop_side_faults m n
drop_faults m kind.Line n = drop_line_faults m n
drop_faults m kind.Thing n = drop_thing_faults m n

-- why an edit is refused
abbrev pub edit_faults : Tables → Edit → List (ℕ × Bool)
edit_faults m (Add i) = add_faults m i
edit_faults m (Set n i) = set_faults m n i
edit_faults m (Drop k n) = drop_faults m k n
