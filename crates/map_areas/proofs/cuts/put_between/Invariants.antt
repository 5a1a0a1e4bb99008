use Rattle.std.proofs.Common.{◌≡◌, true, ◌&&◌, ◌||◌, take}
use Rattle.std.specs.List.{list_any}
use Rattle.lump_records.specs.declared.records.Vertex.{Vertex}
use Rattle.map_plane.specs.Meeting.{is_at}
use Rattle.map_areas.specs.Cuts.{are_cuts}
use Rattle.map_areas.specs.Ways.{is_between}
use Rattle.map_areas.proofs.cuts.put_between.Given as goal

-- those of the other places so far, in their order
abbrev pub invariant-loop-other : goal.invariant-loop-other
invariant-loop-other l = record {
  those : (p : Vertex) → list_any (is_at p) l.places.items
      ≡ (list_any (is_at p) l.initial.places.items || (is_between l.line p && list_any (is_at p) (take l.other-index l.others)));
  order : are_cuts l.line l.line.from l.initial.places.items ≡ true → are_cuts l.line l.line.from l.places.items ≡ true;
}
