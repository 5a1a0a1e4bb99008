use Rattle.std.proofs.Common.{◌≡◌, take}
use Rattle.map_play.proofs.items.things_of.Given as goal

-- the things so far
abbrev pub invariant-loop-n : goal.invariant-loop-n
invariant-loop-n l = l.things.items ≡ take l.n l.map.tables.things
