use Rattle.std.proofs.Common.{sym, ◌∙◌, arith}
use Rattle.map_checks.specs.declared.finding.Finding.TheVariants.{TextureMissing}
use Rattle.map_checks.specs.declared.finding.Texture.{Texture}
use Rattle.map_checks.specs.Textures.{misses, textures}
use Rattle.map_checks.proofs.TextureSteps.{added_more, passed_more, added_all}
use Rattle.map_checks.proofs.textures.list_side.Goals as goal
use Rattle.map_checks.proofs.textures.list_side.Goals.{then-misses+in_ok-push, else-misses}

pub loop-texture-preserved : goal.loop-texture-preserved
loop-texture-preserved c =
    let p = misses c.args.map.now.tables c.args.line.now c.args.left in
    let f = λ (t : Texture). TextureMissing c.args.n c.args.left t in
    let i = c.loop-texture.texture-index in
    elim c.if-misses.branch [
      | then-misses+in_ok-push w ↦
          rw w.found-is
          (w.in_ok-push.ensures.items
          ∙ added_more p f textures i c.args.found.now.items c.loop-texture.found.items c.loop-texture.invariant _ (omega arith)
          (sym c.misses.ensures ∙ w.if-misses.true))
      | else-misses w ↦
          rw w.found-is
          (passed_more p f textures i c.args.found.now.items c.loop-texture.found.items c.loop-texture.invariant _ (omega arith)
          (sym c.misses.ensures ∙ w.if-misses.false))
    ]

pub returns : goal.returns
returns c =
    let p = misses c.args.map.now.tables c.args.line.now c.args.left in
    let f = λ (t : Texture). TextureMissing c.args.n c.args.left t in
    added_all p f textures c.loop-texture.texture-index c.args.found.now.items c.loop-texture.found.items c.loop-texture.invariant c.loop-texture-test.false
