use Rattle.map_picture.specs.Numbering.{note_count}
use Rattle.map_picture.proofs.numbers.write_note_count.Goals as goal

pub returns : goal.returns
unfolding note_count
returns g c = rw c.are_or_is-said.ensures at c.in_ok-write.ensures.bytes
