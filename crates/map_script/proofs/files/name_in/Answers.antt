use Rattle.std.proofs.Common.{◌∙◌, ◌<◌, ap, string_bytes, subst, sym}
use Rattle.std.specs.Prelude.{Some}
use Rattle.map_script.specs.declared.files.FilePart.{FilePart}
use Rattle.map_script.proofs.FileParts.{here, past}
use Rattle.map_script.proofs.files.name_in.Goals as goal

pub returns-then-left-part : goal.returns-then-left-part
returns-then-left-part c =
    sym c.loop-part.invariant.0
    ∙ here c.args.parts.now c.loop-part.part-index c.loop-part.left c.part-item.result c.loop-part-test.true
    (subst (λ (p : FilePart). c.loop-part.left < p.count) c.part-item.is c.if-left-part.true)
    ∙ ap Some (ap (λ (p : FilePart). string_bytes p.name) (sym c.part-item.is) ∙ sym c.as_str.ensures.value)

pub loop-part-preserved : goal.loop-part-preserved
loop-part-preserved c =
    past c.args.parts.now c.loop-part.part-index c.loop-part.left c.args.place c.part-item.result c.loop-part-test.true c.part-item.is c.if-left-part.false
    c.loop-part.invariant.0 c.loop-part.invariant.1
