use Rattle.std.proofs.Common.{◌∙◌, [], List, ap, arith}
use Rattle.map_script.specs.Frames.{layer_of, layers_in_front}
use Rattle.map_script.specs.Known.{scope_of}
use Rattle.map_script.specs.declared.frame.Frame.{Frame}
use Rattle.map_script.proofs.Layering.{frames_long, frames_more}
use Rattle.map_script.proofs.Leaving.{not-left, outside_of}
use Rattle.map_script.proofs.names.Names.leave_shape.Goals as goal

pub returns-then-len-shapes : goal.returns-then-len-shapes
returns-then-len-shapes c =
    let names = c.args.self.now in
    let long = frames_long names.outer.items [] in
    not-left (scope_of names) c.args.shapes (omega (arith, long, names.outer.ok.0, c.if-len-shapes.true))

pub returns-in-Some : goal.returns-in-Some
returns-in-Some c =
    let names = c.args.self.now in
    let long = frames_long names.outer.items [] in
    let rest : List Frame = c.pop.new.self.items in
    outside_of (scope_of names) c.args.shapes (layer_of c.in-Some.frame) (layers_in_front rest []) (omega (arith, long, names.outer.ok.0, c.if-len-shapes.false))
    (ap (λ (fs : List Frame). layers_in_front fs []) c.in-Some.ensures.items ∙ frames_more rest c.in-Some.frame [])

pub returns-in_default : goal.returns-in_default
returns-in_default c =
    let none = (c.in_default.ensures.cases).0 in
    absurd (omega (arith, none, c.len.ensures, c.if-len-shapes.false))
