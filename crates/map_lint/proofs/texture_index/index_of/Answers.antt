use Rattle.std.proofs.Common.{◌∙◌, ap}
use Rattle.std.specs.Prelude.{bytes_eq, find}
use Rattle.std.proofs.lemmas.List.{take_all}
use Rattle.map_lint.proofs.TextureSteps.{indexed_more}
use Rattle.map_lint.proofs.texture_index.index_of.Goals as goal

pub loop-texture-preserved : goal.loop-texture-preserved
loop-texture-preserved c = λ bytes.
    indexed_more c.args.textures.now c.loop-texture.texture-index _ c.loop-texture-test.true bytes _ _ (c.loop-texture.invariant bytes)
    (c.in_ok-note.ensures bytes)

pub returns-clause-index : goal.returns-clause-index
returns-clause-index c = λ bytes.
    c.loop-texture.invariant bytes
    ∙ ap (find (λ t. bytes_eq t.name.bytes bytes)) (take_all c.loop-texture.texture-index c.args.textures.now c.loop-texture-test.false)
