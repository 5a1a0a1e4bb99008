use Rattle.cli_requests.proofs.Salvaging.{salvaged_into}
use Rattle.cli_program.proofs.over_file.salvage_file.Goals as goal

pub returns-clause-salvaged : goal.returns-clause-salvaged
returns-clause-salvaged g c = rw c.ended_over.ensures (salvaged_into _ _ _ _ _ c.salvage_lines-how.ensures.salvaged)
