use Rattle.std.proofs.Common.{◌≡◌, ℕ, ◌<◌, true, ◌&&◌, ◌||◌, take}
use Rattle.std.specs.List.{list_any}
use Rattle.lump_records.specs.declared.records.Vertex.{Vertex}
use Rattle.map_plane.specs.Meeting.{is_at}
use Rattle.map_areas.specs.Cuts.{are_cuts}
use Rattle.map_areas.specs.Refusals.{CrossesBetween}
use Rattle.map_areas.specs.Stops.{crosses_at}
use Rattle.map_areas.specs.Ways.{is_between}
use Rattle.map_areas.proofs.border.put_crossings.Given as goal

-- where the edge crosses the lines so far, none of them between whole places
abbrev pub invariant-loop-n : goal.invariant-loop-n
invariant-loop-n l = record {
  those : (p : Vertex) → list_any (is_at p) l.stops.items
      ≡ (list_any (is_at p) l.initial.stops.items || (is_between l.edge p && list_any (crosses_at l.edge p) (take l.n l.lines)));
  order : are_cuts l.edge l.edge.from l.initial.stops.items ≡ true → are_cuts l.edge l.edge.from l.stops.items ≡ true;
  whole : (k : ℕ) → k < l.n → CrossesBetween l.lines l.edge k → ⊥;
}
