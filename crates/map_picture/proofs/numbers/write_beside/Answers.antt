use Rattle.std.proofs.Common.{rules}
use Rattle.std.proofs.lemmas.Int.{to_z-of_z}
use Rattle.std.specs.Prelude.{FitsSigned}
use Rattle.std.specs.Int.{w64}
use Rattle.map_picture.specs.Numbers.{beside_text}
use Rattle.map_picture.proofs.numbers.write_beside.Goals as goal

pub returns : goal.returns
unfolding beside_text
returns g c =
    let f1 : FitsSigned w64 c.args.shift.dx = search rules in
    let f2 : FitsSigned w64 c.args.shift.dy = search rules in
    rw (to_z-of_z w64 c.args.shift.dx f1, to_z-of_z w64 c.args.shift.dy f2) at c.in_ok-write.ensures.bytes
