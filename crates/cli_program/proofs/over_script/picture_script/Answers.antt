use Rattle.std.proofs.Common.{refl}
use Rattle.cli_program.proofs.Scripted.{over_drawn, over_none}
use Rattle.cli_scripts.specs.ScriptCanvases.{maps_alone}
use Rattle.cli_program.proofs.over_script.picture_script.Goals as goal

pub returns-in-Err-clause-pictured : goal.returns-in-Err-clause-pictured
returns-in-Err-clause-pictured g c = over_none maps_alone _ _ _ _ _ _ _ _ _ c.new-draft.ensures c.in-Err.ensures.none

pub returns-clause-pictured : goal.returns-clause-pictured
returns-clause-pictured g c =
    over_drawn maps_alone _ c.in-Ok.whole.lines c.in-Ok.whole.files c.new-draft.result c.draw_maps.new.canvas _ _ _ _ _ _ _ _ c.maps.result.now _ c.new-draft.ensures c.in-Ok.ensures.whole c.in-Ok.ensures.drawn c.in-Ok.ensures.quiet c.maps.ensures refl
    c.draw.ensures.drawn
