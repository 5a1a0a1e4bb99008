use Rattle.std.proofs.Common.{inl, inr}
use Rattle.std.proofs.KnownBytes.{Keeps-refl}
use Rattle.cli_requests.proofs.build_request.build.Goals as goal

pub returns-clause-built : goal.returns-clause-built
returns-clause-built g c = inl (c.in-Err.ensures.refused.0, Keeps-refl (g.W.Write.contents c.args.writer.now))

pub returns-in-Ok-clause-built : goal.returns-in-Ok-clause-built
returns-in-Ok-clause-built g c = inr (c.maps_on.new.maps, c.in-Ok.ensures.read.0, c.build_at.ensures.built)
