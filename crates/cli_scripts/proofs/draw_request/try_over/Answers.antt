use Rattle.std.proofs.Common.{inl, inr}
use Rattle.std.proofs.KnownBytes.{Keeps-refl}
use Rattle.cli_scripts.proofs.Scripted.{tried_same}
use Rattle.cli_scripts.proofs.draw_request.try_over.Goals as goal

pub returns-in-Err-clause-tried : goal.returns-in-Err-clause-tried
returns-in-Err-clause-tried g c = rw c.not_opened.ensures.disk (
  c.in-Err.ensures.refused.1,
  inl ((c.in-Err.refused.error, c.not_opened.ensures.how, c.in-Err.ensures.refused.0, c.in-Err.ensures.refused.2), Keeps-refl (g.W.Write.contents c.args.writer.now)),
)

pub returns-clause-tried : goal.returns-clause-tried
returns-clause-tried g c = rw c.into_disk.ensures.disk (
  c.in-Ok.ensures.opened.only_read,
  inr (
    c.in-Ok.project,
    c.in-Ok.ensures.opened,
    tried_same c.in-Ok.project c.maps.result.now c.cap.result _ _ _ _ _ c.maps.ensures c.cap.ensures.cap c.try_copy-how.ensures.tried,
  ),
)
