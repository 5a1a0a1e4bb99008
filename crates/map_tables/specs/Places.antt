-- The set of taken places as contracts see it.
use Rattle.std.specs.Prelude.{◌≡◌, ℕ, List, length}
use Rattle.lump_records.specs.declared.records.Vertex.{Vertex}
use Rattle.map_tables.specs.Faults.{is_taken}

-- the places, in some order, and the number of places that there is room for
pub record PlacesView : Type 0 where
  pub marked : List Vertex
  pub room : ℕ

-- the places are those of the vertices
pub record AreMarked (places : PlacesView) (vertices : List Vertex) : Type 0 where
  pub taken : (v : Vertex) → is_taken places.marked v ≡ is_taken vertices v
  pub count : length places.marked ≡ length vertices
