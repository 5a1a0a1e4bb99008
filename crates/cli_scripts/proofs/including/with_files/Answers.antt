use Rattle.cli_scripts.proofs.JoinedLines.{puts_first}
use Rattle.cli_scripts.proofs.including.with_files.Goals as goal

pub returns-in-Ok-clause-whole : goal.returns-in-Ok-clause-whole
returns-in-Ok-clause-whole g c = puts_first _ _ _ _ _ _ _ c.in-Ok.ensures.put c.empty.ensures c.new.ensures
