use Rattle.std.proofs.Common.{◌∙◌, sym}
use Rattle.cli_program.proofs.Scripted.{source_of_file, source_of_input}
use Rattle.cli_scripts.specs.ScriptCanvases.{maps_alone}
use Rattle.cli_program.proofs.over_input.dump_source.Goals as goal

pub returns-then-is_file-clause-dumped : goal.returns-then-is_file-clause-dumped
returns-then-is_file-clause-dumped g c = source_of_file maps_alone _ _ _ _ _ _ _ _ _ (sym c.is_file.ensures ∙ c.if-is_file.true) c.dump_file.ensures.dumped

pub returns-else-is_file-clause-dumped : goal.returns-else-is_file-clause-dumped
returns-else-is_file-clause-dumped g c = source_of_input maps_alone _ _ _ _ _ _ _ _ _ _ (sym c.is_file.ensures ∙ c.if-is_file.false) c.dump_script.ensures.dumped
