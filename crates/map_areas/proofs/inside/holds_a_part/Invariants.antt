use Rattle.std.proofs.Common.{◌≡◌, drop}
use Rattle.map_areas.specs.Cuts.{holds_part}
use Rattle.map_areas.proofs.inside.holds_a_part.Given as goal

-- what is left of the line decides
abbrev pub invariant-loop-cut : goal.invariant-loop-cut
invariant-loop-cut l =
    holds_part l.border.doubled.items l.line l.line.from l.cuts ≡ holds_part l.border.doubled.items l.line l.from (drop l.cut-index l.cuts)
