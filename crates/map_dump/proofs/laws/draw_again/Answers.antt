use Rattle.map_dump.proofs.Drawn.{draws_again}
use Rattle.map_dump.proofs.laws.draw_again.Goals as goal

pub returns : goal.returns
returns c = draws_again
