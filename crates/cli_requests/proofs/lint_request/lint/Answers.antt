use Rattle.std.proofs.Common.{inl, inr}
use Rattle.std.proofs.KnownBytes.{Keeps-refl}
use Rattle.cli_requests.proofs.lint_request.lint.Goals as goal

pub returns-clause-linted : goal.returns-clause-linted
returns-clause-linted g c = inl (c.in-Err.ensures.refused.0, Keeps-refl (g.W.Write.contents c.args.writer.now))

pub returns-in-Ok-clause-linted : goal.returns-in-Ok-clause-linted
returns-in-Ok-clause-linted g c = inr (c.maps_on.new.maps, c.in-Ok.ensures.read.0, c.tell_beside.ensures.told)
