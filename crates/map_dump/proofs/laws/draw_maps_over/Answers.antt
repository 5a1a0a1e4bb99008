use Rattle.map_dump.proofs.Over.{drawn_over}
use Rattle.map_dump.proofs.laws.draw_maps_over.Goals as goal

pub returns : goal.returns
returns c = drawn_over
