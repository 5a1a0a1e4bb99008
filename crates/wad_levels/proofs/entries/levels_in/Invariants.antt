use Rattle.wad_levels.proofs.RunLemmas.{AreFirst}
use Rattle.wad_levels.proofs.entries.levels_in.Given as goal

-- the levels of the markers up to the k-th entry
abbrev pub invariant-loop-k : goal.invariant-loop-k
invariant-loop-k l = AreFirst l.wad l.k l.levels.items
