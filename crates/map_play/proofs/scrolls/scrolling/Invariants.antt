use Rattle.std.proofs.Common.{◌≡◌, filter}
use Rattle.std.specs.List.{range_with_len}
use Rattle.map_play.specs.Scrolls.{scrolls_at}
use Rattle.map_play.proofs.scrolls.scrolling.Given as goal

abbrev pub invariant-loop-n : goal.invariant-loop-n
invariant-loop-n l = l.numbers.items ≡ filter (scrolls_at l.map.tables) (range_with_len 0 l.n)
