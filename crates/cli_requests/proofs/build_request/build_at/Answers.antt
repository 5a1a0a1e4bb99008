use Rattle.cli_requests.proofs.Counting.{built_told}
use Rattle.cli_requests.proofs.build_request.build_at.Goals as goal

pub returns-in-Ok-build_into-clause-built : goal.returns-in-Ok-build_into-clause-built
returns-in-Ok-build_into-clause-built g c =
    built_told c.tell_built.result c.args.maps.now c.in-Ok-build_into.ensures.written.0 c.in-Ok-build_into.built.0 (g.W.Write.contents c.args.writer.now)
    (g.W.Write.contents c.tell_built.new.writer) c.in-Ok-build_into.ensures.written.1 c.tell_built.ensures.told
