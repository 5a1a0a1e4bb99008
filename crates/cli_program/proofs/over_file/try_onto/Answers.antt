use Rattle.std.proofs.Common.{◌∙◌, inl, sym}
use Rattle.std.proofs.KnownBytes.{Keeps-trans}
use Rattle.cli_scripts.proofs.Scripted.{over_lines, unread_lines}
use Rattle.cli_program.proofs.Sources.{tried_onto_some}
use Rattle.cli_sources.proofs.Opened.{unopened_of}
use Rattle.cli_program.proofs.over_file.try_onto.Goals as goal

pub returns-in-Err-clause-tried : goal.returns-in-Err-clause-tried
returns-in-Err-clause-tried g c = unread_lines _ _ _ _ _ _ _ _ c.in-Err.ensures.refused

pub returns-in-Err-clause-quiet : goal.returns-in-Err-clause-quiet
returns-in-Err-clause-quiet g c = λ is. absurd (c.in-Err.ensures.stopped is)

pub returns-in-Err-open_read-clause-tried : goal.returns-in-Err-open_read-clause-tried
returns-in-Err-open_read-clause-tried g c = over_lines _ _ _ _ _ _ _ _ _ c.in-Ok.ensures.whole (inl (unopened_of _ _ c.in-Err-open_read.ensures))

pub returns-clause-tried : goal.returns-clause-tried
returns-clause-tried g c =
    rw c.ended_over.ensures (over_lines _ _ _ _ _ _ _ _ _ c.in-Ok.ensures.whole (tried_onto_some _ _ _ _ _ _ _ _ c.try_over-how.ensures.tried))

pub returns-clause-quiet : goal.returns-clause-quiet
returns-clause-quiet g c = λ is. Keeps-trans _ _ _ c.in-Ok.ensures.quiet (c.try_over-how.ensures.quiet (sym c.ended_over.ensures ∙ is))
