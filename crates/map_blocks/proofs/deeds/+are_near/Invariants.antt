use Rattle.std.proofs.Common.{length}
use Rattle.map_blocks.proofs.deeds.+are_near.Given as goal

-- the rest of the first word is shorter
abbrev pub decreases-are_near : goal.decreases-are_near
decreases-are_near l = length l.one.now
