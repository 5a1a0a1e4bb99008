use Rattle.std.proofs.Common.{refl}
use Rattle.cli_program.proofs.Scripted.{over_drawn, over_none}
use Rattle.cli_scripts.specs.ScriptCanvases.{maps_alone}
use Rattle.cli_program.proofs.over_script.build_script.Goals as goal

pub returns-in-Err-clause-built : goal.returns-in-Err-clause-built
returns-in-Err-clause-built g c = over_none maps_alone _ _ _ _ _ _ _ _ _ c.new-draft.ensures c.in-Err.ensures.none

pub returns-clause-built : goal.returns-clause-built
returns-clause-built g c =
    over_drawn maps_alone _ c.in-Ok.whole.lines c.in-Ok.whole.files c.new-draft.result c.draw_maps.new.canvas _ _ _ _ _ _ _ _ c.maps.result.now _ c.new-draft.ensures c.in-Ok.ensures.whole c.in-Ok.ensures.drawn c.in-Ok.ensures.quiet c.maps.ensures refl
    c.build_at.ensures.built
