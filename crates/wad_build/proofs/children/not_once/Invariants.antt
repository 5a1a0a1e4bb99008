-- The numbers so far are children exactly once.
use Rattle.std.specs.Prelude.{◌==◌}
use Rattle.std.specs.List.{range_with_len}
use Rattle.wad_build.specs.Counts.{times_among}
use Rattle.wad_build.proofs.FirstLemmas.{IsBelow}
use Rattle.wad_build.proofs.children.not_once.Given as goal

abbrev pub invariant-loop-n : goal.invariant-loop-n
invariant-loop-n l = IsBelow (λ n. times_among l.base l.end l.children n == 1) (range_with_len 0 l.len) l.n
