use Rattle.std.proofs.Common.{rules}
use Rattle.std.proofs.lemmas.Int.{to_z-of_z}
use Rattle.std.specs.Prelude.{FitsSigned}
use Rattle.std.specs.Int.{w32}
use Rattle.map_picture.specs.Fills.{edge_text}
use Rattle.map_picture.proofs.fills.write_edge.Goals as goal

pub returns : goal.returns
unfolding edge_text
returns g c =
    let f1 : FitsSigned w32 c.args.from.x = search rules in
    let f2 : FitsSigned w32 c.args.from.y = search rules in
    let f3 : FitsSigned w32 c.args.to.x = search rules in
    let f4 : FitsSigned w32 c.args.to.y = search rules in
    rw (to_z-of_z w32 c.args.from.x f1, to_z-of_z w32 c.args.from.y f2, to_z-of_z w32 c.args.to.x f3, to_z-of_z w32 c.args.to.y f4) at c.in_ok-write.ensures.bytes
