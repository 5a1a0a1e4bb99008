use Rattle.std.proofs.Common.{rules}
use Rattle.std.proofs.lemmas.Int.{to_z-of_z}
use Rattle.std.specs.Prelude.{FitsSigned}
use Rattle.std.specs.Int.{w32}
use Rattle.map_picture.specs.Numbers.{anchor_text}
use Rattle.map_picture.proofs.numbers.write_anchor.Goals as goal

pub returns : goal.returns
unfolding anchor_text
returns g c =
    let f1 : FitsSigned w32 c.args.place.x = search rules in
    let f2 : FitsSigned w32 c.args.place.y = search rules in
    rw (to_z-of_z w32 c.args.place.x f1, to_z-of_z w32 c.args.place.y f2) at c.in_ok-write.ensures.bytes
