use Rattle.map_dump.proofs.Lines.{are_cut}
use Rattle.map_dump.proofs.laws.are_cut_into_lines.Goals as goal

pub returns : goal.returns
returns c = are_cut
