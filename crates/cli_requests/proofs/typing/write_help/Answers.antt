use Rattle.cli_requests.proofs.typing.write_help.Goals as goal

pub returns-in-Ok : goal.returns-in-Ok
returns-in-Ok g c = (_, c.write_text.ensures)

pub returns-in-Err : goal.returns-in-Err
returns-in-Err g c = (_, c.write_text-in-Err.ensures)
