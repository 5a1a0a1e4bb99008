-- What the lines so far reach.
use Rattle.std.proofs.Common.{◌≡◌, take}
use Rattle.wad_levels.specs.Drawn.{drawn_view}
use Rattle.wad_import.proofs.CountLemmas.{reach_of}
use Rattle.wad_import.proofs.counts.vertex_reach.Given as goal

abbrev pub invariant-loop-line : goal.invariant-loop-line
invariant-loop-line l = l.reach ≡ reach_of (drawn_view l.drawn) (take l.line-index l.drawn.lines.items)
