use Rattle.std.proofs.Common.{◌≡◌, ℕ, ◌<◌, Some, take}
use Rattle.std.specs.List.{slice_get}
use Rattle.std.specs.Prelude.{All}
use Rattle.map_areas.specs.Cuts.{IsCutWhole, uncut}
use Rattle.map_areas.specs.Refusals.{CrossesBetween}
use Rattle.map_plane.specs.Places.{placed_lines}
use Rattle.map_plane.specs.declared.places.PlacedLine.{PlacedLine}
use Rattle.map_areas.proofs.border.cut_all.Given as goal

-- the edges so far, each cut where something meets it, and none of which crosses a line between whole places
abbrev pub invariant-loop-edge : goal.invariant-loop-edge
invariant-loop-edge l = record {
  cut : All (IsCutWhole l.map.tables) l.all.items;
  edges : uncut l.all.items ≡ take l.edge-index l.edges;
  whole : (k : ℕ) → k < l.edge-index → (e : PlacedLine) → slice_get l.edges k ≡ Some e → (n : ℕ) → CrossesBetween (placed_lines l.map.tables) e n → ⊥;
}
