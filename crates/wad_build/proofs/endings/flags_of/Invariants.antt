-- The words so far, from the last one, have their flags.
use Rattle.std.specs.Prelude.{◌-◌, length, min}
use Rattle.wad_build.proofs.EndingLemmas.{SoFar}
use Rattle.wad_build.proofs.endings.flags_of.Given as goal

abbrev pub invariant-loop-behind : goal.invariant-loop-behind
invariant-loop-behind l = SoFar l.lines l.words (length l.words - l.behind) (min (length l.words) 32768) l.flags.items l.ends
