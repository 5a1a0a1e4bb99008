use Rattle.std.proofs.Common.{◌∙◌, [], ap, sym}
use Rattle.map_script.specs.Frames.{known_in, layers_in_front}
use Rattle.map_script.specs.Layers.{layered}
use Rattle.map_script.specs.Meant.{meant_by}
use Rattle.map_script.proofs.Layering.{meant_front, or_else}
use Rattle.map_script.proofs.names.Names.find.Goals as goal

pub returns-in-Some : goal.returns-in-Some
returns-in-Some c =
    let names = c.args.self.now in
    let others = layered (layers_in_front names.outer.items []) in
    ap (λ o. or_else o (meant_by others c.args.name.now)) c.in-Some.ensures ∙ sym (meant_front (known_in names.own) others c.args.name.now)

pub returns-in-None : goal.returns-in-None
returns-in-None c =
    let names = c.args.self.now in
    let others = layered (layers_in_front names.outer.items []) in
    c.find_in.ensures ∙ ap (λ fs. meant_by (layered (layers_in_front fs [])) c.args.name.now) c.deref.ensures.value
    ∙ ap (λ o. or_else o (meant_by others c.args.name.now)) c.in-None.ensures ∙ sym (meant_front (known_in names.own) others c.args.name.now)
