use Rattle.std.proofs.Common.{rules}
use Rattle.std.proofs.lemmas.Int.{to_z-of_z}
use Rattle.std.specs.Prelude.{FitsSigned}
use Rattle.std.specs.Int.{w32, w64}
use Rattle.map_picture.specs.Lines.{tick_text}
use Rattle.map_picture.proofs.lines.write_tick.Goals as goal

pub returns : goal.returns
unfolding tick_text
returns g c =
    let f1 : FitsSigned w32 c.args.middle.x = search rules in
    let f2 : FitsSigned w32 c.args.middle.y = search rules in
    let f3 : FitsSigned w64 c.args.right.dx = search rules in
    let f4 : FitsSigned w64 c.args.right.dy = search rules in
    rw (to_z-of_z w32 c.args.middle.x f1, to_z-of_z w32 c.args.middle.y f2, to_z-of_z w64 c.args.right.dx f3, to_z-of_z w64 c.args.right.dy f4) at c.in_ok-write.ensures.bytes
