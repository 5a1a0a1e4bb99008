use Rattle.std.proofs.Common.{rules}
use Rattle.std.proofs.lemmas.Int.{to_z-of_z}
use Rattle.std.specs.Prelude.{FitsSigned}
use Rattle.std.specs.Int.{w16}
use Rattle.map_picture.specs.Things.{shape_text}
use Rattle.map_picture.proofs.things.write_shape.Goals as goal

pub returns : goal.returns
unfolding shape_text
returns g c =
    let f1 : FitsSigned w16 c.args.thing.now.kind = search rules in
    let f2 : FitsSigned w16 c.args.thing.now.angle = search rules in
    let f3 : FitsSigned w16 c.args.thing.now.options = search rules in
    rw (to_z-of_z w16 c.args.thing.now.kind f1, to_z-of_z w16 c.args.thing.now.angle f2, to_z-of_z w16 c.args.thing.now.options f3) at c.in_ok-write.ensures.bytes
