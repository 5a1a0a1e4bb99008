use Rattle.std.proofs.Common.{◌∙◌, ap, inl, sym}
use Rattle.std.specs.Prelude.{Err}
use Rattle.std.proofs.KnownBytes.{Keeps-refl, Keeps-trans}
use Rattle.cli_scripts.proofs.Scripted.{over_lines, unread_lines}
use Rattle.cli_program.proofs.Sources.{drawn_onto_some}
use Rattle.cli_program.proofs.over_file.draw_file.Goals as goal

pub returns-in-Err-clause-drawn : goal.returns-in-Err-clause-drawn
returns-in-Err-clause-drawn g c = unread_lines _ _ _ _ _ _ _ _ c.in-Err.ensures.refused

pub returns-in-Err-clause-quiet : goal.returns-in-Err-clause-quiet
returns-in-Err-clause-quiet g c = λ is. absurd (c.in-Err.ensures.stopped is)

pub returns-in-Err-file_at-clause-drawn : goal.returns-in-Err-file_at-clause-drawn
returns-in-Err-file_at-clause-drawn g c =
    over_lines _ _ _ _ _ _ _ _ _ c.in-Ok.ensures.whole (inl (_, ap Err c.in-Err-file_at.ensures, tt, Keeps-refl (g.W.Write.contents c.args.writer.now)))

pub returns-clause-drawn : goal.returns-clause-drawn
returns-clause-drawn g c =
    rw c.ended_over.ensures (over_lines _ _ _ _ _ _ _ _ _ c.in-Ok.ensures.whole (drawn_onto_some _ _ _ _ _ _ _ _ c.draw-how.ensures.drawn))

pub returns-clause-quiet : goal.returns-clause-quiet
returns-clause-quiet g c = λ is. Keeps-trans _ _ _ c.in-Ok.ensures.quiet (c.draw-how.ensures.quiet (sym c.ended_over.ensures ∙ is))
