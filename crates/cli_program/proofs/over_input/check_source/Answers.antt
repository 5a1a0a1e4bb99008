use Rattle.std.proofs.Common.{◌∙◌, sym}
use Rattle.cli_program.proofs.Scripted.{source_of_file, source_of_input}
use Rattle.cli_scripts.specs.ScriptCanvases.{maps_with_origins}
use Rattle.cli_program.proofs.over_input.check_source.Goals as goal

pub returns-then-is_file-clause-found : goal.returns-then-is_file-clause-found
returns-then-is_file-clause-found g c = source_of_file maps_with_origins _ _ _ _ _ _ _ _ _ (sym c.is_file.ensures ∙ c.if-is_file.true) c.check_file.ensures.found

pub returns-else-is_file-clause-found : goal.returns-else-is_file-clause-found
returns-else-is_file-clause-found g c = source_of_input maps_with_origins _ _ _ _ _ _ _ _ _ _ (sym c.is_file.ensures ∙ c.if-is_file.false) c.check_script.ensures.found
