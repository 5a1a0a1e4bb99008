use Rattle.std.proofs.Common.{rules}
use Rattle.std.proofs.lemmas.Int.{to_z-of_z}
use Rattle.std.specs.Prelude.{FitsSigned}
use Rattle.std.specs.Int.{w32}
use Rattle.map_picture.specs.Legend.{first_text}
use Rattle.map_picture.proofs.legend.write_first.Goals as goal

pub returns : goal.returns
unfolding first_text
returns g c =
    let f1 : FitsSigned w32 c.args.first = search rules in
    rw (to_z-of_z w32 c.args.first f1) at c.in_ok-write.ensures.bytes
