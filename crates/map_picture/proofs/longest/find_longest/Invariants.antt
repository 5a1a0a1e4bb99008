use Rattle.std.proofs.Common.{take}
use Rattle.map_picture.specs.Longest.{AreLongest}
use Rattle.map_picture.proofs.longest.find_longest.Given as goal

-- the longest ones among the lines so far
abbrev pub invariant-loop-n : goal.invariant-loop-n
invariant-loop-n l = AreLongest l.map.tables l.first (take l.n l.map.tables.lines) l.longest
