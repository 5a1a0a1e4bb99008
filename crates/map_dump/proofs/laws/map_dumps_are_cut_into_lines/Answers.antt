use Rattle.map_dump.proofs.Lines.{map_dumps_are_cut}
use Rattle.map_dump.proofs.laws.map_dumps_are_cut_into_lines.Goals as goal

pub returns : goal.returns
returns c = map_dumps_are_cut
