use Rattle.std.proofs.Common.{inl, inr}
use Rattle.std.proofs.KnownBytes.{Keeps-refl}
use Rattle.cli_requests.proofs.picture_request.picture.Goals as goal

pub returns-clause-pictured : goal.returns-clause-pictured
returns-clause-pictured g c = inl (c.in-Err.ensures.refused.0, Keeps-refl (g.W.Write.contents c.args.writer.now))

pub returns-in-Ok-clause-pictured : goal.returns-in-Ok-clause-pictured
returns-in-Ok-clause-pictured g c = inr (c.maps_on.new.maps, c.in-Ok.ensures.read.0, c.draw.ensures.drawn)
