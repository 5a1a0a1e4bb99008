use Rattle.cli_print.proofs.Origins.{checked_text-none}
use Rattle.cli_print.proofs.laws.findings_alone.Goals as goal

pub returns : goal.returns
returns c = checked_text-none
