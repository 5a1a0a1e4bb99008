-- The items of a map that nothing uses: vertices without a line, sides without a line, sectors without a side.
use Rattle.std.specs.Prelude.{ℕ, Bool, not, List, length, map, filter}
use Rattle.std.specs.List.{list_any, range_with_len}
use Rattle.map_tables.specs.Tables.{Tables}
use Rattle.map_tables.specs.Faults.{uses_vertex, uses_side, in_sector}
use Rattle.map_checks.specs.declared.finding.Finding.{Finding}
use Rattle.map_checks.specs.declared.finding.Finding.TheVariants.{VertexUnused, SideUnused, SectorUnused}

-- the numbers 0, 1, .. of a list's items
abbrev pub item_numbers : {X : Type 0} → List X → List ℕ
item_numbers xs = range_with_len 0 (length xs)

-- the numbers of the items that none of the users uses
abbrev pub unused : {X Y : Type 0} → (ℕ → Y → Bool) → List X → List Y → List ℕ
unused uses items users = filter (λ n. not (list_any (uses n) users)) (item_numbers items)

-- the vertices that no line has
abbrev pub unused_vertices : Tables → List Finding
unused_vertices m = map (λ n. VertexUnused n) (unused uses_vertex m.vertices m.lines)

-- the sides that no line has
abbrev pub unused_sides : Tables → List Finding
unused_sides m = map (λ n. SideUnused n) (unused uses_side m.sides m.lines)

-- the sectors that no side faces
abbrev pub unused_sectors : Tables → List Finding
unused_sectors m = map (λ n. SectorUnused n) (unused in_sector m.sectors m.sides)
