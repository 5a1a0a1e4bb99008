use Rattle.std.proofs.Common.{◌≡◌, drop}
use Rattle.map_areas.specs.Bordered.{is_led}
use Rattle.map_areas.proofs.Rests.{IsRest}
use Rattle.map_areas.proofs.round.follow_edge.Given as goal

-- what is left of the edge decides
abbrev pub invariant-loop-place : goal.invariant-loop-place
invariant-loop-place l = record {
  led : is_led l.map.tables l.first.sector l.cut.edge l.cut.edge.from l.cut.cuts.items
      ≡ is_led l.map.tables l.first.sector l.cut.edge l.at (drop l.place-index l.cut.cuts.items);
  rest : IsRest l.map.tables l.cut.edge l.at (drop l.place-index l.cut.cuts.items);
}
