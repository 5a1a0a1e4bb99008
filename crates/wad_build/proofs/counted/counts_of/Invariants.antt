-- The levels so far have been counted.
use Rattle.std.specs.Prelude.{take}
use Rattle.wad_build.specs.Counted.{CountsLevels}
use Rattle.wad_build.proofs.CountedLemmas.{views_in}
use Rattle.wad_build.proofs.counted.counts_of.Given as goal

abbrev pub invariant-loop-n : goal.invariant-loop-n
invariant-loop-n l = CountsLevels (take l.n (views_in l.levels)) l.len l.counts
