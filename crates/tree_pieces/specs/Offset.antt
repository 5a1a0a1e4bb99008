-- The offset of a seg: how far its first place is from where its side starts.
use Rattle.std.specs.Prelude.{ℕ, ◌+◌, ◌*◌, ◌≤◌, ◌<◌}
pub use Rattle.lump_records.specs.Drawing.{squared_distance, longest_squared}
use Rattle.lump_records.specs.declared.records.Vertex.{Vertex}

-- the whole square root of the squared distance, rounded down
pub record IsOffset (u v : Vertex) (offset : ℕ) : Type 0 where
  pub at_least : offset * offset ≤ squared_distance u v
  pub below : squared_distance u v < (offset + 1) * (offset + 1)
