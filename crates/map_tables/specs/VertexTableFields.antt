-- The value that the fields of a `VertexTable` represent, and their invariant.
use Rattle.std.specs.Prelude.{◌≢◌, ◌-◌, ◌≤◌, length, min, AllPairs}
use Rattle.map_tables.specs.declared.map.vertex_table.VertexTable.TheInside.{Inside}
use Rattle.lump_records.specs.declared.records.Vertex.{Vertex}
use Rattle.map_tables.specs.Keys.{TableView}
use Rattle.map_tables.specs.Places.{AreMarked}

-- one more vertex fits if both the table and the set of places have room for it
abbrev pub vertices_of : Inside → TableView Vertex
vertices_of a =
    record {
      items = a.items.items;
      keys = a.items.keys;
      spare = min a.items.spare (a.places.room - length a.items.items);
    }

-- no two vertices are at the same place, and the set has exactly their places
pub record KeepsPlaces (a : Inside) : Type 0 where
  pub apart : AllPairs (λ v w. v ≢ w) a.items.items
  pub marked : AreMarked a.places a.items.items
  pub within : length a.items.items ≤ a.places.room
