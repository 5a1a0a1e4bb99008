use Rattle.map_areas.specs.Drawings.{IsUnderway, IsTaken}
use Rattle.map_areas.proofs.drawing.Drawing.cut_line.Given as goal

-- the part behind the places so far is what is cut next
abbrev pub invariant-loop-cut : goal.invariant-loop-cut
invariant-loop-cut l = record {
  drawn : IsUnderway l.map.tables l.border l.round l.self;
  taken : IsTaken l.map.tables l.border l.number;
}
