use Rattle.cli_requests.proofs.Salvaging.{salvaged_from}
use Rattle.cli_requests.proofs.salvage_request.write_salvaged.Goals as goal

pub returns-clause-salvaged : goal.returns-clause-salvaged
returns-clause-salvaged g c =
    let found = c.in-Ok.found in
    salvaged_from c.args.file.now found.maps found.records found.behind c.tell_lines-how.result (g.W.Write.contents c.args.writer.now) (g.W.Write.contents c.tell_lines-how.new.writer)
    c.in-Ok.ensures.salvaged c.tell_lines-how.ensures.told
