use Rattle.std.proofs.Common.{[]}
use Rattle.map_script.specs.Views.{seen}
use Rattle.run_stops.proofs.Rounds.{left_one}
use Rattle.run_stops.proofs.further.telling_behind.Goals as goal

pub returns-clause-out : goal.returns-clause-out
returns-clause-out c =
    left_one c.empty-left_out.result c.put.new.self [] c.args.lines.now c.args.place (seen c.line.result) c.line.ensures c.empty-left_out.ensures c.in_ok-put.ensures.ok
