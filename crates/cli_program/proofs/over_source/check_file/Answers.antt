use Rattle.std.proofs.Common.{None}
use Rattle.std.proofs.KnownBytes.{Keeps-refl}
use Rattle.cli_program.proofs.Scripted.{some_of_maps, some_of_script, some_of_wad}
use Rattle.cli_program.proofs.Sources.{of_some_maps}
use Rattle.cli_scripts.specs.ScriptCanvases.{maps_with_origins}
use Rattle.cli_program.proofs.over_source.check_file.Goals as goal

pub returns-in-Ok-Wad-clause-found : goal.returns-in-Ok-Wad-clause-found
returns-in-Ok-Wad-clause-found g c = some_of_wad maps_with_origins _ None None _ _ _ _ _ _ _ c.check_wad.ensures.found (Keeps-refl (g.F.Write.contents c.args.faults.now))

pub returns-in-Ok-Text-clause-found : goal.returns-in-Ok-Text-clause-found
returns-in-Ok-Text-clause-found g c = some_of_script maps_with_origins _ _ _ _ _ _ _ _ _ _ c.check_script.ensures.found

pub returns-clause-found : goal.returns-clause-found
returns-clause-found g c =
    rw c.ended_over.ensures (some_of_maps maps_with_origins _ _ _ _ _ _ _ _ (of_some_maps _ _ _ _ _ _ c.check-how.ensures.found) (Keeps-refl (g.F.Write.contents c.args.faults.now)))
