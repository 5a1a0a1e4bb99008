use Rattle.std.proofs.Common.{◌≡◌, map, take}
use Rattle.std.specs.List.{enumerate_from}
use Rattle.map_play.specs.Sided.{sided}
use Rattle.map_play.proofs.sided.sided_lines.Given as goal

-- the lines so far
abbrev pub invariant-loop-n : goal.invariant-loop-n
invariant-loop-n l = l.lines.items ≡ map (sided l.map.tables) (take l.n (enumerate_from 0 l.map.tables.lines))
