use Rattle.std.proofs.KnownBytes.{Keeps-trans}
use Rattle.cli_scripts.proofs.Scripted.{over_lines, unread_lines}
use Rattle.cli_scripts.proofs.script_file.try_file.Goals as goal

pub returns-in-Err-clause-tried : goal.returns-in-Err-clause-tried
returns-in-Err-clause-tried g c = unread_lines _ _ _ _ _ _ _ _ c.in-Err.ensures.refused

pub returns-in-Err-clause-quiet : goal.returns-in-Err-clause-quiet
returns-in-Err-clause-quiet g c = λ is. absurd (c.in-Err.ensures.stopped is)

pub returns-clause-tried : goal.returns-clause-tried
returns-clause-tried g c = over_lines _ _ _ _ _ _ _ _ _ c.in-Ok.ensures.whole c.try_script.ensures.tried

pub returns-clause-quiet : goal.returns-clause-quiet
returns-clause-quiet g c = λ is. Keeps-trans _ _ _ c.in-Ok.ensures.quiet (c.try_script.ensures.quiet is)
