use Rattle.cli_program.proofs.program.scratch.Goals as goal

pub returns-clause-answered : goal.returns-clause-answered
returns-clause-answered g c =
    (c.run_in_memory.result, c.run_in_memory.ensures.0, c.run_in_memory.ensures.1, c.ended.ensures.ended, c.run_in_memory.ensures.2)
