use Rattle.cli_scripts.specs.Including.{AreJoined}
use Rattle.cli_scripts.proofs.JoinedLines.{alone_stays}
use Rattle.cli_scripts.proofs.including.lines_alone_stay.Goals as goal

pub returns : goal.returns
returns c = λ path script lines files none joined. alone_stays (AreJoined 16) path script lines files none joined
