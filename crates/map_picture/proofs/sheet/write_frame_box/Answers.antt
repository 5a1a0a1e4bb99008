use Rattle.std.proofs.Common.{rules}
use Rattle.std.proofs.lemmas.Int.{to_z-of_z}
use Rattle.std.specs.Prelude.{FitsSigned}
use Rattle.std.specs.Int.{w32}
use Rattle.map_picture.specs.Sheet.{frame_box}
use Rattle.map_picture.proofs.sheet.write_frame_box.Goals as goal

pub returns : goal.returns
unfolding frame_box
returns g c =
    let f1 : FitsSigned w32 c.args.view.now.left = search rules in
    let f2 : FitsSigned w32 c.args.view.now.top = search rules in
    rw (to_z-of_z w32 c.args.view.now.left f1, to_z-of_z w32 c.args.view.now.top f2) at c.in_ok-write.ensures.bytes
