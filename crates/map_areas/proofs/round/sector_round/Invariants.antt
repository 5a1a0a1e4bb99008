use Rattle.std.proofs.Common.{take}
use Rattle.std.specs.Prelude.{All}
use Rattle.map_areas.specs.Cuts.{IsLed}
use Rattle.map_areas.proofs.round.sector_round.Given as goal

-- the edges so far
abbrev pub invariant-loop-cut : goal.invariant-loop-cut
invariant-loop-cut l = All (IsLed l.map.tables l.first.sector) (take l.cut-index l.border.cut_edges.items)
