use Rattle.std.proofs.Common.{inl, inr}
use Rattle.std.proofs.KnownBytes.{Keeps-refl}
use Rattle.cli_sources.proofs.Opened.{no_status}
use Rattle.cli_requests.proofs.sessions.edit_typed.Goals as goal

pub returns-in-Err-clause-small : goal.returns-in-Err-clause-small
returns-in-Err-clause-small g c = no_status g.D.Disk c.args.disk c.in-Err.refused.disk c.not_opened.result.how _
    (c.in-Err.refused.error, c.not_opened.ensures.how, c.in-Err.ensures.refused.0, c.in-Err.ensures.refused.2)

pub returns-in-Err-clause-typed : goal.returns-in-Err-clause-typed
returns-in-Err-clause-typed g c =
    rw c.not_opened.ensures.disk (inl ((c.in-Err.refused.error, c.not_opened.ensures.how, c.in-Err.ensures.refused.0, c.in-Err.ensures.refused.2), c.in-Err.ensures.refused.1, Keeps-refl (g.R.Read.remaining c.args.reader.now), Keeps-refl (g.W.Write.contents c.args.writer.now)))

pub returns-clause-typed : goal.returns-clause-typed
returns-clause-typed g c =
    inr (
      c.in-Ok.project,
      c.run_over.new.project,
      c.in-Ok.ensures.opened,
      c.into_disk.ensures.disk,
      (c.run_over.result, c.run_over.ensures.0, c.typed_end-how.ensures.ended, c.run_over.ensures.1, c.run_over.ensures.2),
    )
