use Rattle.std.proofs.Common.{◌∙◌, ap, ap₂, Option}
use Rattle.map_script.specs.Known.{scope_of}
use Rattle.map_script.specs.Layers.{Layer}
use Rattle.map_script.specs.Scopes.{Scope, held_as}
use Rattle.map_script.specs.declared.referent.Answer.{Answer}
use Rattle.map_script.proofs.names.Names.release.Goals as goal

pub returns : goal.returns
returns c =
    let s : Scope = scope_of c.leave_shape.new.self in
    ap₂ (λ (l : Layer) (a : Option Answer). record { names = l.names; held = l.held; outer = s.outer; placing = c.args.mark.placing; is_within = c.args.mark.is_within; answered = a })
    c.release.ensures c.later_of-self.ensures
    ∙ ap (λ (t : Scope). held_as t c.args.mark) c.leave_shape.ensures
