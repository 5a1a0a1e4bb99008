use Rattle.std.proofs.Common.{None}
use Rattle.std.proofs.KnownBytes.{Keeps-refl}
use Rattle.cli_program.proofs.Scripted.{some_of_maps, some_of_script, some_of_wad}
use Rattle.cli_program.proofs.Sources.{of_some_maps}
use Rattle.cli_scripts.specs.ScriptCanvases.{maps_with_origins}
use Rattle.cli_program.proofs.over_source.lint_file.Goals as goal

pub returns-in-Ok-Wad-clause-linted : goal.returns-in-Ok-Wad-clause-linted
returns-in-Ok-Wad-clause-linted g c = some_of_wad maps_with_origins _ None None _ _ _ _ _ _ _ c.lint_wad.ensures.linted (Keeps-refl (g.F.Write.contents c.args.faults.now))

pub returns-in-Ok-Text-clause-linted : goal.returns-in-Ok-Text-clause-linted
returns-in-Ok-Text-clause-linted g c = some_of_script maps_with_origins _ _ _ _ _ _ _ _ _ _ c.lint_script.ensures.linted

pub returns-clause-linted : goal.returns-clause-linted
returns-clause-linted g c =
    rw c.ended_over.ensures (some_of_maps maps_with_origins _ _ _ _ _ _ _ _ (of_some_maps _ _ _ _ _ _ c.lint-how.ensures.linted) (Keeps-refl (g.F.Write.contents c.args.faults.now)))
