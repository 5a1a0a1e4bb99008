use Rattle.cli_scripts.proofs.Scripted.{stopped_read, unscripted_read}
use Rattle.cli_scripts.proofs.script_maps.draw_maps.Goals as goal

pub returns-in-Err-clause-none : goal.returns-in-Err-clause-none
returns-in-Err-clause-none g c = unscripted_read g.C.Canvas c.args.canvas.now _ _ _ _ _ c.in-Err.how _ c.without_script.ensures c.in-Err.ensures.refused

pub returns-in-Some-clause-none : goal.returns-in-Some-clause-none
returns-in-Some-clause-none g c = stopped_read g.C.Canvas c.args.canvas.now _ _ _ _ _ _ _ _ _ c.in-Ok.ensures.whole c.in-Ok.ensures.quiet c.in-Some.ensures.drawn
