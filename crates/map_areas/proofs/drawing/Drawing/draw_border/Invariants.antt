use Rattle.std.proofs.Common.{take}
use Rattle.std.specs.Prelude.{All}
use Rattle.map_areas.specs.Cuts.{IsWalled}
use Rattle.map_areas.specs.Drawings.{IsUnderway}
use Rattle.map_areas.proofs.drawing.Drawing.draw_border.Given as goal

-- the edges so far
abbrev pub invariant-loop-cut : goal.invariant-loop-cut
invariant-loop-cut l = record {
  drawn : IsUnderway l.map.tables l.border l.paint.round l.self;
  walled : All (IsWalled l.map.tables l.self.map.tables l.paint.sector) (take l.cut-index l.border.cut_edges.items);
}
