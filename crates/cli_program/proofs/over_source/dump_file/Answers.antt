use Rattle.std.proofs.Common.{None}
use Rattle.std.proofs.KnownBytes.{Keeps-refl}
use Rattle.cli_program.proofs.DumpedLemmas.{some_of_told}
use Rattle.cli_program.proofs.Scripted.{some_of_maps, some_of_script}
use Rattle.cli_program.proofs.Sources.{of_some_maps}
use Rattle.cli_scripts.specs.ScriptCanvases.{maps_alone}
use Rattle.cli_program.proofs.over_source.dump_file.Goals as goal

pub returns-in-Ok-Wad-clause-dumped : goal.returns-in-Ok-Wad-clause-dumped
returns-in-Ok-Wad-clause-dumped g c = some_of_told maps_alone _ None None _ _ _ _ _ _ _ c.dump_wad.ensures.dumped

pub returns-in-Ok-Text-clause-dumped : goal.returns-in-Ok-Text-clause-dumped
returns-in-Ok-Text-clause-dumped g c = some_of_script maps_alone _ _ _ _ _ _ _ _ _ _ c.dump_script.ensures.dumped

pub returns-clause-dumped : goal.returns-clause-dumped
returns-clause-dumped g c =
    rw c.ended_over.ensures (some_of_maps maps_alone _ _ _ _ _ _ _ _ (of_some_maps _ _ _ _ _ _ c.dump-how.ensures.dumped) (Keeps-refl (g.F.Write.contents c.args.faults.now)))
