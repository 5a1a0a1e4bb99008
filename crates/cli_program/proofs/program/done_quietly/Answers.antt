use Rattle.cli_program.proofs.program.done_quietly.Goals as goal

pub returns-in_default-clause-performed : goal.returns-in_default-clause-performed
returns-in_default-clause-performed g c = c.done_with_wad.ensures.performed (g.R.Read.remaining c.args.reader.now)
