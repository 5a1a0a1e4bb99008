-- The lumps up to the n-th level, and those in place of it, are listed.
use Rattle.wad_rebuild.specs.Held.{directory_of}
use Rattle.std.specs.Prelude.{drop}
use Rattle.wad_rebuild.proofs.PartLemmas.{IsPutUpTo}
use Rattle.wad_rebuild.proofs.parts.put_rebuilt.Given as goal

abbrev pub invariant-loop-n : goal.invariant-loop-n
invariant-loop-n l = IsPutUpTo l.wad (directory_of l.held) l.levels (drop l.n l.levels) l.next l.initial.to l.to
