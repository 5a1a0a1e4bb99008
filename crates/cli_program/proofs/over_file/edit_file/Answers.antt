use Rattle.cli_program.proofs.Sources.{edited}
use Rattle.cli_program.proofs.over_file.edit_file.Goals as goal

pub returns-clause-answered : goal.returns-clause-answered
returns-clause-answered g c = rw c.ended_over.ensures (edited _ _ _ _ _ _ _ _ c.edit-how.ensures.answered)
