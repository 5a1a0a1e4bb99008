use Rattle.cli_print.proofs.Origins.{remarks-none}
use Rattle.cli_print.proofs.laws.remarks_alone.Goals as goal

pub returns : goal.returns
returns c = remarks-none
