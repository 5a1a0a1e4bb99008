use Rattle.std.proofs.Common.{rules}
use Rattle.std.proofs.KnownBytes.{Appends-trans}
use Rattle.std.proofs.lemmas.Int.{to_z-of_z}
use Rattle.std.specs.Prelude.{FitsSigned}
use Rattle.std.specs.Int.{w16, w32}
use Rattle.map_picture.specs.Things.{mark_text, shape_text, thing_text}
use Rattle.map_picture.proofs.things.write_thing.Goals as goal

pub returns : goal.returns
unfolding thing_text
returns g c =
    let u = g.W.Write.contents c.args.writer.now in
    let w = g.W.Write.contents c.write_mark.new.writer in
    let x = g.W.Write.contents c.write_shape.new.writer in
    let mark = mark_text c.args.n c.class_of.result.now c.spot_of-place.result c.turn_of.result in
    let shape = shape_text c.args.n c.args.thing.now c.shape_of.result.now in
    let fits : FitsSigned w32 c.turn_of.result = search rules in
    let marked = rw (to_z-of_z w32 c.turn_of.result fits) at c.in_ok-write_mark.ensures in
    let both = Appends-trans u w x mark shape marked c.in_ok-write_shape.ensures in
    let kind : FitsSigned w16 c.args.thing.now.kind = search rules in
    let angle : FitsSigned w16 c.args.thing.now.angle = search rules in
    rw (c.class_of.ensures, c.shape_of.ensures, c.group_of-group.ensures, c.spot_of-place.ensures, c.place.ensures, c.turn_of.ensures, to_z-of_z w16 c.args.thing.now.kind kind, to_z-of_z w16 c.args.thing.now.angle angle) at both
