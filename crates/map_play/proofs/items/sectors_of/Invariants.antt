use Rattle.std.proofs.Common.{◌≡◌, take}
use Rattle.map_play.proofs.items.sectors_of.Given as goal

-- the sectors so far
abbrev pub invariant-loop-n : goal.invariant-loop-n
invariant-loop-n l = l.sectors.items ≡ take l.n l.map.tables.sectors
