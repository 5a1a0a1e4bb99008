use Rattle.std.proofs.Common.{◌∙◌, ◌∷◌, ◌++◌, [], ap, ap₂, List, None}
use Rattle.map_script.specs.Frames.{layer_of, layers_in_front}
use Rattle.map_script.specs.declared.frame.Frame.{Frame}
use Rattle.map_script.proofs.Layering.{frames_more}
use Rattle.map_script.proofs.Leaving.{scope_at}
use Rattle.map_script.proofs.names.Names.enter_shape.Goals as goal

pub returns-clause-ok : goal.returns-clause-ok
returns-clause-ok c =
    let names = c.args.self.now in
    let fs : List Frame = names.outer.items in
    let own = ap layer_of c.replace-outer.ensures.after ∙ c.new.ensures in
    let outer = ap (λ (gs : List Frame). layers_in_front gs []) (c.in-Ok.ensures.items ∙ ap₂ (λ (gs : List Frame) (f : Frame). gs ++ f ∷ []) c.in_ok-reserve.ensures.items c.replace-outer.ensures.value)
    ∙ frames_more fs names.own [] in
    scope_at names.placing names.is_within None own outer
