use Rattle.std.proofs.Common.{inl, inr}
use Rattle.std.proofs.KnownBytes.{Keeps-refl}
use Rattle.cli_requests.proofs.dump_request.dump.Goals as goal

pub returns-clause-dumped : goal.returns-clause-dumped
returns-clause-dumped g c = inl (c.in-Err.ensures.refused.0, Keeps-refl (g.W.Write.contents c.args.writer.now))

pub returns-in-Ok-clause-dumped : goal.returns-in-Ok-clause-dumped
returns-in-Ok-clause-dumped g c = inr (c.maps_on.new.maps, c.in-Ok.ensures.read.0, c.tell_lines_of.ensures.told)
