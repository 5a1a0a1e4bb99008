use Rattle.std.proofs.Common.{inl, inr}
use Rattle.std.proofs.KnownBytes.{Keeps-refl}
use Rattle.cli_sources.proofs.Opened.{no_status}
use Rattle.cli_requests.proofs.over_disk.edit.Goals as goal

pub returns-in-Err-clause-small : goal.returns-in-Err-clause-small
returns-in-Err-clause-small g c = no_status g.D.Disk c.args.disk c.in-Err.refused.disk c.not_opened.result.how _
    (c.in-Err.refused.error, c.not_opened.ensures.how, c.in-Err.ensures.refused.0, c.in-Err.ensures.refused.2)

pub returns-in-Err-clause-answered : goal.returns-in-Err-clause-answered
returns-in-Err-clause-answered g c =
    rw c.not_opened.ensures.disk (inl ((c.in-Err.refused.error, c.not_opened.ensures.how, c.in-Err.ensures.refused.0, c.in-Err.ensures.refused.2), c.in-Err.ensures.refused.1, Keeps-refl (g.R.Read.remaining c.args.reader.now), Keeps-refl (g.W.Write.contents c.args.writer.now)))

pub returns-clause-answered : goal.returns-clause-answered
returns-clause-answered g c =
    inr (
      c.run.result,
      c.in-Ok.project,
      c.run.new.project,
      c.run.ensures.0,
      c.in-Ok.ensures.opened,
      c.into_disk.ensures.disk,
      c.ended-how.ensures.ended,
      c.run.ensures.1,
      c.run.ensures.2,
    )
