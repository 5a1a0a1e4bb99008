use Rattle.cli_scripts.proofs.Scripts.{told_refused}
use Rattle.cli_scripts.proofs.told_stops.say_stop.Goals as goal

pub returns-in-Some-clause-told : goal.returns-in-Some-clause-told
returns-in-Some-clause-told g c =
    told_refused c.show_stop.result c.args.lines.now c.args.files.now c.args.drawn.now _ c.in-Some.stop
    (g.F.Write.contents c.args.faults.now) (g.F.Write.contents c.show_stop.new.faults) c.in-Ok.is c.in-Some.is c.requires.within c.requires.files
    c.show_stop.ensures
