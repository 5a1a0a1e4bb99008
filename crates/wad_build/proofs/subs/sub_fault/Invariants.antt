-- The subsectors so far follow one another.
use Rattle.wad_build.proofs.FirstLemmas.{SubsSoFar}
use Rattle.wad_build.proofs.subs.sub_fault.Given as goal

abbrev pub invariant-loop-n : goal.invariant-loop-n
invariant-loop-n l = SubsSoFar l.level.subs.items l.n l.at
