use Rattle.std.proofs.Common.{◌∙◌, ap}
use Rattle.std.specs.Prelude.{bytes_eq}
use Rattle.std.specs.List.{list_any}
use Rattle.std.proofs.lemmas.List.{take_all}
use Rattle.map_lint.proofs.GraphicSteps.{names_more}
use Rattle.map_lint.proofs.graphics.set_of.Goals as goal

pub loop-name-preserved : goal.loop-name-preserved
loop-name-preserved c = λ bytes.
    names_more c.args.names.now c.loop-name.name-index _ c.loop-name-test.true bytes _ _ (c.loop-name.invariant bytes)
    (c.in_ok-insert.ensures.updates.0 bytes)

pub returns-clause-set : goal.returns-clause-set
returns-clause-set c = λ bytes.
    c.loop-name.invariant bytes ∙ ap (list_any (λ k. bytes_eq k.bytes bytes)) (take_all c.loop-name.name-index c.args.names.now c.loop-name-test.false)
