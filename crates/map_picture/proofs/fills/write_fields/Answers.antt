use Rattle.std.proofs.Common.{rules}
use Rattle.std.proofs.lemmas.Int.{to_z-of_z}
use Rattle.std.specs.Prelude.{FitsSigned}
use Rattle.std.specs.Int.{w16}
use Rattle.map_picture.specs.Fills.{sector_fields}
use Rattle.map_picture.proofs.fills.write_fields.Goals as goal

pub returns : goal.returns
unfolding sector_fields
returns g c =
    let f1 : FitsSigned w16 c.args.sector.now.light = search rules in
    let f2 : FitsSigned w16 c.args.sector.now.special = search rules in
    let f3 : FitsSigned w16 c.args.sector.now.tag = search rules in
    rw (to_z-of_z w16 c.args.sector.now.light f1, to_z-of_z w16 c.args.sector.now.special f2, to_z-of_z w16 c.args.sector.now.tag f3) at c.in_ok-write.ensures.bytes
