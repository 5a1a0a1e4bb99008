use Rattle.map_picture.specs.Lines.{ends_text}
use Rattle.map_picture.proofs.lines.write_ends.Goals as goal

pub returns : goal.returns
unfolding ends_text
returns g c = rw (c.width_class-width.ensures, c.special_class-special.ensures) at c.in_ok-write.ensures.bytes
