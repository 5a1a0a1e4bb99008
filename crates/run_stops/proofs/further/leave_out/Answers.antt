use Rattle.std.proofs.Common.{refl}
use Rattle.map_script.specs.Views.{seen}
use Rattle.run_stops.proofs.Rounds.{left_one}
use Rattle.run_stops.proofs.further.leave_out.Goals as goal

pub returns-clause-out : goal.returns-clause-out
returns-clause-out c =
    left_one c.args.telling.now.left_out c.put.new.self c.args.telling.now.left_out c.args.telling.now.lines c.args.place (seen c.line.result) c.line.ensures refl c.in_ok-put.ensures.ok
