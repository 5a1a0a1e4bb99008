use Rattle.std.proofs.Common.{ap}
use Rattle.cli_program.proofs.Scripted.{over_drawn, over_none}
use Rattle.cli_scripts.specs.ScriptCanvases.{maps_with_origins}
use Rattle.cli_scripts.specs.ScriptOrigins.{DrawnScript, script_origin}
use Rattle.cli_program.proofs.over_script.lint_script.Goals as goal

pub returns-in-Err-clause-linted : goal.returns-in-Err-clause-linted
returns-in-Err-clause-linted g c = over_none maps_with_origins _ _ _ _ _ _ _ _ _ c.new-draft.ensures c.in-Err.ensures.none

pub returns-clause-linted : goal.returns-clause-linted
returns-clause-linted g c =
    over_drawn maps_with_origins _ c.in-Ok.whole.lines c.in-Ok.whole.files c.new-draft.result c.draw_maps.new.canvas _ _ _ _ _ _ _ _ c.maps.result.now _ c.new-draft.ensures c.in-Ok.ensures.whole
    c.in-Ok.ensures.drawn c.in-Ok.ensures.quiet c.maps.ensures (ap (λ (s : DrawnScript). script_origin s.lines s.files s.last) c.new-origin.ensures) c.tell_beside.ensures.told
