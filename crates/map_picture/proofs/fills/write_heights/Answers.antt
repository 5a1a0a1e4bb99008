use Rattle.std.proofs.Common.{rules}
use Rattle.std.proofs.lemmas.Int.{to_z-of_z}
use Rattle.std.specs.Prelude.{FitsSigned}
use Rattle.std.specs.Int.{w16}
use Rattle.map_picture.specs.Fills.{heights_text}
use Rattle.map_picture.proofs.fills.write_heights.Goals as goal

pub returns : goal.returns
unfolding heights_text
returns g c =
    let f1 : FitsSigned w16 c.args.sector.now.floor = search rules in
    let f2 : FitsSigned w16 c.args.sector.now.ceiling = search rules in
    rw (to_z-of_z w16 c.args.sector.now.floor f1, to_z-of_z w16 c.args.sector.now.ceiling f2) at c.in_ok-write.ensures.bytes
