use Rattle.std.proofs.Common.{inl, inr}
use Rattle.std.proofs.KnownBytes.{Keeps-refl}
use Rattle.cli_requests.proofs.over_disk.check.Goals as goal

pub returns-clause-found : goal.returns-clause-found
returns-clause-found g c = inl (c.in-Err.ensures.refused.0, Keeps-refl (g.W.Write.contents c.args.writer.now))

pub returns-in-Ok-clause-found : goal.returns-in-Ok-clause-found
returns-in-Ok-clause-found g c = inr (c.maps_on.new.maps, c.in-Ok.ensures.read.0, c.tell_findings.ensures.told)
