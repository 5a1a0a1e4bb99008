use Rattle.std.proofs.KnownBytes.{Keeps-refl}
use Rattle.cli_program.proofs.Scripted.{some_of_maps, some_of_script}
use Rattle.cli_program.proofs.Sources.{of_some_maps}
use Rattle.cli_scripts.specs.ScriptCanvases.{maps_alone}
use Rattle.cli_program.proofs.over_source.build_file.Goals as goal

pub returns-in-Ok-Text-clause-built : goal.returns-in-Ok-Text-clause-built
returns-in-Ok-Text-clause-built g c = some_of_script maps_alone _ _ _ _ _ _ _ _ _ _ c.build_script.ensures.built

pub returns-clause-built : goal.returns-clause-built
returns-clause-built g c =
    rw c.ended_over.ensures (some_of_maps maps_alone _ _ _ _ _ _ _ _ (of_some_maps _ _ _ _ _ _ c.build-how.ensures.built) (Keeps-refl (g.F.Write.contents c.args.faults.now)))
