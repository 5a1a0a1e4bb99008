use Rattle.std.proofs.Common.{◌≡◌, take}
use Rattle.std.specs.List.{list_any}
use Rattle.lump_records.specs.declared.records.Vertex.{Vertex}
use Rattle.map_plane.specs.Meeting.{is_at}
use Rattle.map_areas.specs.Cuts.{is_cut_at}
use Rattle.map_areas.proofs.border.stops_of.Given as goal

-- where the edges so far begin or are cut
abbrev pub invariant-loop-cut : goal.invariant-loop-cut
invariant-loop-cut l = (p : Vertex) → list_any (is_at p) l.stops.items ≡ is_cut_at (take l.cut-index l.cut_edges) p
