-- The lumps up to the n-th are listed.
use Rattle.std.specs.Prelude.{map, take}
use Rattle.wad_rebuild.specs.Held.{at_hand}
use Rattle.wad_rebuild.specs.Rebuilt.{ten_lumps}
use Rattle.wad_rebuild.specs.Parts.{AddsPlaced}
use Rattle.wad_rebuild.proofs.parts.put_ten.Given as goal

abbrev pub invariant-loop-n : goal.invariant-loop-n
invariant-loop-n l = AddsPlaced l.initial.to l.to (take l.n (map at_hand (ten_lumps l.wad l.fn.level l.made)))
