use Rattle.std.proofs.Common.{None}
use Rattle.std.proofs.KnownBytes.{Keeps-refl}
use Rattle.cli_program.proofs.Scripted.{some_of_maps, some_of_script, some_of_wad}
use Rattle.cli_program.proofs.Sources.{of_some_maps}
use Rattle.cli_scripts.specs.ScriptCanvases.{maps_alone}
use Rattle.cli_program.proofs.over_source.picture_file.Goals as goal

pub returns-in-Ok-Wad-clause-pictured : goal.returns-in-Ok-Wad-clause-pictured
returns-in-Ok-Wad-clause-pictured g c = some_of_wad maps_alone _ None None _ _ _ _ _ _ _ c.picture_wad.ensures.pictured (Keeps-refl (g.F.Write.contents c.args.faults.now))

pub returns-in-Ok-Text-clause-pictured : goal.returns-in-Ok-Text-clause-pictured
returns-in-Ok-Text-clause-pictured g c = some_of_script maps_alone _ _ _ _ _ _ _ _ _ _ c.picture_script.ensures.pictured

pub returns-clause-pictured : goal.returns-clause-pictured
returns-clause-pictured g c =
    rw c.ended_over.ensures (some_of_maps maps_alone _ _ _ _ _ _ _ _ (of_some_maps _ _ _ _ _ _ c.picture-how.ensures.pictured) (Keeps-refl (g.F.Write.contents c.args.faults.now)))
