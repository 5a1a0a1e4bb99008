-- The lumps up to the k-th are listed.
use Rattle.std.specs.Prelude.{take, ◌-◌}
use Rattle.wad_rebuild.specs.Held.{directory_of, kept_between}
use Rattle.wad_rebuild.specs.Parts.{AddsPlaced}
use Rattle.wad_rebuild.proofs.parts.put_between.Given as goal

abbrev pub invariant-loop-k : goal.invariant-loop-k
invariant-loop-k l = AddsPlaced l.initial.to l.to (take (l.k - l.from) (kept_between l.wad (directory_of l.held) l.from l.end))
