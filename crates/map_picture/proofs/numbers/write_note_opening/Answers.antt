use Rattle.std.proofs.Common.{rules}
use Rattle.std.proofs.lemmas.Int.{to_z-of_z}
use Rattle.std.specs.Prelude.{FitsSigned}
use Rattle.std.specs.Int.{w64}
use Rattle.map_picture.specs.Numbering.{note_opening}
use Rattle.map_picture.proofs.numbers.write_note_opening.Goals as goal

pub returns : goal.returns
unfolding note_opening
returns g c =
    let f1 : FitsSigned w64 c.note_left-x.result = search rules in
    let f2 : FitsSigned w64 c.note_down-y.result = search rules in
    rw (to_z-of_z w64 c.note_left-x.result f1, to_z-of_z w64 c.note_down-y.result f2, c.note_left-x.ensures, c.note_down-y.ensures) at c.in_ok-write.ensures.bytes
