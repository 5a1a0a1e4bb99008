use Rattle.map_dump.proofs.InTurn.{drawn_in_turn}
use Rattle.map_dump.proofs.laws.draw_maps_in_turn.Goals as goal

pub returns : goal.returns
returns c = drawn_in_turn
