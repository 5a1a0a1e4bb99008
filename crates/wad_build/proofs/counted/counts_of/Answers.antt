use Rattle.std.proofs.Common.{◌≡◌, ◌∙◌, ◌<◌, ◌≤◌, List, arith, ap, sym, subst, length, get_or}
use Rattle.std.proofs.lemmas.List.{get_or-map, length-map, take_all}
use Rattle.wad_build.specs.Counted.{CountsLevels}
use Rattle.wad_levels.specs.Levels.{Lumps}
use Rattle.wad_build.specs.Views.{built_view}
use Rattle.wad_build.specs.declared.levels.NamedLevel.{NamedLevel}
use Rattle.wad_build.proofs.CountedLemmas.{counts_more, views_in}
use Rattle.wad_build.proofs.counted.counts_of.Goals as goal

pub loop-n-preserved : goal.loop-n-preserved
loop-n-preserved c =
    let xs = c.args.levels.now in
    let x = c.index-levels-n.result in
    let of = λ (y : NamedLevel). built_view y.level in
    let long : length (views_in xs) ≡ length xs = length-map xs of in
    let within : c.loop-n.n < length (views_in xs) = omega (arith, long, c.loop-n-test.true) in
    let at : get_or (views_in xs) c.loop-n.n (built_view x.level) ≡ built_view x.level =
    get_or-map of xs c.loop-n.n x (built_view x.level) c.loop-n-test.true ∙ ap of (sym c.index-levels-n.is) in
    counts_more (views_in xs) c.loop-n.n c.args.len (built_view x.level) c.loop-n.counts c.in-Ok.more within at c.loop-n.invariant c.in-Ok.ensures.counted

pub returns-clause-counted : goal.returns-clause-counted
returns-clause-counted c =
    let xs = c.args.levels.now in
    let long : length (views_in xs) ≡ length xs = length-map xs (λ (y : NamedLevel). built_view y.level) in
    let whole : length (views_in xs) ≤ c.loop-n.n = omega (arith, long, c.loop-n-test.false) in
    subst (λ (ls : List Lumps). CountsLevels ls c.args.len c.loop-n.counts) (take_all c.loop-n.n (views_in xs) whole) c.loop-n.invariant
