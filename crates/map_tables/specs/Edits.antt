-- The map after each edit, and the edit's outcome: the new map and an answer, or the least code that refuses it.
use Rattle.std.specs.Prelude.{ℕ, ◌-◌, ◌==◌, nat_lt, if◌then◌else◌, [], ◌∷◌, ◌++◌, length, map, slice_set, remove, Result, ⊤}
use Rattle.lump_records.specs.declared.records.Name8.{Name8}
use Rattle.lump_records.specs.declared.records.Thing.{Thing}
use Rattle.lump_records.specs.declared.records.Line.{Line}
use Rattle.lump_records.specs.declared.records.Side.{Side}
use Rattle.lump_records.specs.declared.records.Vertex.{Vertex}
use Rattle.lump_records.specs.declared.records.Sector.{Sector}
use Rattle.map_tables.specs.declared.edit.Edit.{Edit}
use Rattle.map_tables.specs.declared.edit.Edit.TheVariants.{Add, Set, Drop}
use Rattle.map_tables.specs.declared.edit.Item.{Item}
use Rattle.map_tables.specs.declared.edit.Item.TheVariants as item
use Rattle.map_tables.specs.declared.edit.Need.{Need}
use Rattle.map_tables.specs.declared.kind.Kind.{Kind}
use Rattle.map_tables.specs.declared.kind.Kind.TheVariants as kind
use Rattle.map_tables.specs.Tables.{Tables, count_of, kind_of_item, no_side}
use Rattle.map_tables.specs.Outcomes.{least, no_need, one_of, unless}
use Rattle.map_tables.specs.EditFaults.{add_faults, set_faults, drop_faults, edit_faults}

-- ---- Names and numbers

-- the map with another name
abbrev pub with_name : Tables → Name8 → Tables
with_name m name = record m { name = name }

-- an item's number after the item `gone` has been removed
abbrev pub lowered : ℕ → ℕ → ℕ
lowered gone n = if nat_lt gone n then n - 1 else n

-- the same for a line's left side, if it has one
abbrev pub lowered_left : ℕ → ℕ → ℕ
lowered_left gone n = if n == no_side then n else lowered gone n

-- a line after a vertex that it hasn't is removed
abbrev pub line_without_vertex : ℕ → Line → Line
line_without_vertex gone l = record l { v1 = lowered gone l.v1; v2 = lowered gone l.v2 }

-- a line after a side that it hasn't is removed
abbrev pub line_without_side : ℕ → Line → Line
line_without_side gone l =
    record l { right = lowered gone l.right; left = lowered_left gone l.left }

-- a side after a sector that it doesn't face is removed
abbrev pub side_without_sector : ℕ → Side → Side
side_without_sector gone s = record s { sector = lowered gone s.sector }

-- ---- The map with one more item, appended

-- the map with one more vertex, the last
abbrev pub with_vertex : Tables → Vertex → Tables
with_vertex m v = record m { vertices = m.vertices ++ v ∷ [] }

-- the map with one more sector, the last
abbrev pub with_sector : Tables → Sector → Tables
with_sector m s = record m { sectors = m.sectors ++ s ∷ [] }

-- the map with one more side, the last
abbrev pub with_side : Tables → Side → Tables
with_side m s = record m { sides = m.sides ++ s ∷ [] }

-- the map with one more line, the last
abbrev pub with_line : Tables → Line → Tables
with_line m l = record m { lines = m.lines ++ l ∷ [] }

-- the map with one more thing, the last
abbrev pub with_thing : Tables → Thing → Tables
with_thing m t = record m { things = m.things ++ t ∷ [] }

-- ---- The map with the item that has a number replaced

-- the map with another vertex under the number
abbrev pub with_vertex_at : Tables → ℕ → Vertex → Tables
with_vertex_at m n v = record m { vertices = slice_set m.vertices n v }

-- the map with another sector under the number
abbrev pub with_sector_at : Tables → ℕ → Sector → Tables
with_sector_at m n s = record m { sectors = slice_set m.sectors n s }

-- the map with another side under the number
abbrev pub with_side_at : Tables → ℕ → Side → Tables
with_side_at m n s = record m { sides = slice_set m.sides n s }

-- the map with another line under the number
abbrev pub with_line_at : Tables → ℕ → Line → Tables
with_line_at m n l = record m { lines = slice_set m.lines n l }

-- the map with another thing under the number
abbrev pub with_thing_at : Tables → ℕ → Thing → Tables
with_thing_at m n t = record m { things = slice_set m.things n t }

-- ---- The map without an item, each greater number lowered by one, in the references too

-- the map without the vertex
abbrev pub without_vertex : Tables → ℕ → Tables
without_vertex m n =
    record m { vertices = remove m.vertices n; lines = map (line_without_vertex n) m.lines }

-- the map without the sector
abbrev pub without_sector : Tables → ℕ → Tables
without_sector m n =
    record m { sectors = remove m.sectors n; sides = map (side_without_sector n) m.sides }

-- the map without the side
abbrev pub without_side : Tables → ℕ → Tables
without_side m n = record m { sides = remove m.sides n; lines = map (line_without_side n) m.lines }

-- the map without the line
abbrev pub without_line : Tables → ℕ → Tables
without_line m n = record m { lines = remove m.lines n }

-- the map without the thing
abbrev pub without_thing : Tables → ℕ → Tables
without_thing m n = record m { things = remove m.things n }

-- ---- Any item

-- the map with one more item, appended
abbrev pub with_item : Tables → Item → Tables
with_item m (item.Vertex v) = with_vertex m v
with_item m (item.Sector s) = with_sector m s
with_item m (item.Side s) = with_side m s
with_item m (item.Line l) = with_line m l
with_item m (item.Thing t) = with_thing m t

-- the map with the item that has a number replaced
abbrev pub with_item_at : Tables → ℕ → Item → Tables
with_item_at m n (item.Vertex v) = with_vertex_at m n v
with_item_at m n (item.Sector s) = with_sector_at m n s
with_item_at m n (item.Side s) = with_side_at m n s
with_item_at m n (item.Line l) = with_line_at m n l
with_item_at m n (item.Thing t) = with_thing_at m n t

-- the map without an item, each greater number lowered by one
abbrev pub without : Tables → Kind → ℕ → Tables
without m kind.Vertex n = without_vertex m n
without m kind.Sector n = without_sector m n
without m kind.Side n = without_side m n
without m kind.Line n = without_line m n
without m kind.Thing n = without_thing m n

-- ---- Edits

-- the map after an edit
abbrev pub after_edit : Tables → Edit → Tables
after_edit m (Add i) = with_item m i
after_edit m (Set n i) = with_item_at m n i
after_edit m (Drop k n) = without m k n

-- the number of an edit's item: a new one gets the next
abbrev pub edit_number : Tables → Edit → ℕ
edit_number m (Add i) = count_of m (kind_of_item i)
edit_number m (Set n i) = n
edit_number m (Drop k n) = n

-- what an edit adds
abbrev pub edit_need : Edit → Need
edit_need (Add i) = one_of (kind_of_item i)
edit_need (Set n i) = no_need
edit_need (Drop k n) = no_need

-- the outcome of an edit: the new map and the item's number, or the least code that refuses it
abbrev pub edited : Tables → Edit → Result (Tables × ℕ) ℕ
edited m e = unless (least (edit_faults m e)) (after_edit m e) (edit_number m e)

-- the same of an addition
abbrev pub added : Tables → Item → Result (Tables × ℕ) ℕ
added m i = unless (least (add_faults m i)) (with_item m i) (count_of m (kind_of_item i))

-- the same of a change, which returns no number
abbrev pub changed : Tables → ℕ → Item → Result (Tables × ⊤) ℕ
changed m n i = unless (least (set_faults m n i)) (with_item_at m n i) tt

-- the same of a removal
abbrev pub dropped : Tables → Kind → ℕ → Result (Tables × ⊤) ℕ
dropped m k n = unless (least (drop_faults m k n)) (without m k n) tt
