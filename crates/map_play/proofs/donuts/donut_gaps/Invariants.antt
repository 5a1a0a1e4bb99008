use Rattle.std.proofs.Common.{◌≡◌}
use Rattle.std.specs.List.{filter_map, range_with_len}
use Rattle.map_play.specs.Donuts.{donut_gap}
use Rattle.map_play.proofs.donuts.donut_gaps.Given as goal

abbrev pub invariant-loop-n : goal.invariant-loop-n
invariant-loop-n l = l.gaps.items ≡ filter_map (donut_gap l.map.tables) (range_with_len 0 l.n)
