use Rattle.std.proofs.Common.{◌∙◌, List, ℕ, subst}
use Rattle.wad_build.specs.Counted.{CountsLevels}
use Rattle.wad_build.proofs.CountedLemmas.{views_in}
use Rattle.wad_build.proofs.LevelLemmas.{pwad_fits, pwad_long}
use Rattle.wad_build.proofs.counted.counted_lumps.Goals as goal

pub size-requires : goal.size-requires
size-requires c = pwad_fits c.in_ok-lumps.lumps c.args.levels.now c.in_ok-lumps.ensures.lumps c.requires.sized c.requires.parts

pub returns-clause-counted : goal.returns-clause-counted
returns-clause-counted c =
    subst (λ (n : ℕ). CountsLevels (views_in c.args.levels.now) n c.in_ok-counts.counts)
    (c.size.ensures ∙ pwad_long c.in_ok-lumps.lumps c.args.levels.now c.in_ok-lumps.ensures.lumps c.requires.sized c.requires.parts) c.in_ok-counts.ensures.counted
