use Rattle.map_picture.specs.Lines.{fields_text}
use Rattle.map_picture.proofs.lines.write_fields.Goals as goal

pub returns : goal.returns
unfolding fields_text
returns g c = rw c.sector_of-sector.ensures at c.in_ok-write.ensures.bytes
