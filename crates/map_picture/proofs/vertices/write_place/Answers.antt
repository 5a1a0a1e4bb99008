use Rattle.std.proofs.Common.{rules}
use Rattle.std.proofs.lemmas.Int.{to_z-of_z}
use Rattle.std.specs.Prelude.{FitsSigned}
use Rattle.std.specs.Int.{w16}
use Rattle.map_picture.specs.Vertices.{vertex_title}
use Rattle.map_picture.proofs.vertices.write_place.Goals as goal

pub returns : goal.returns
unfolding vertex_title
returns g c =
    let f1 : FitsSigned w16 c.args.vertex.x = search rules in
    let f2 : FitsSigned w16 c.args.vertex.y = search rules in
    rw (to_z-of_z w16 c.args.vertex.x f1, to_z-of_z w16 c.args.vertex.y f2) at c.in_ok-write.ensures.bytes
