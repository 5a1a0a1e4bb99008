use Rattle.std.proofs.Common.{◌∙◌, sym}
use Rattle.cli_program.proofs.Scripted.{source_of_file, source_of_input}
use Rattle.cli_scripts.specs.ScriptCanvases.{maps_alone}
use Rattle.cli_program.proofs.over_input.picture_source.Goals as goal

pub returns-then-is_file-clause-pictured : goal.returns-then-is_file-clause-pictured
returns-then-is_file-clause-pictured g c = source_of_file maps_alone _ _ _ _ _ _ _ _ _ (sym c.is_file.ensures ∙ c.if-is_file.true) c.picture_file.ensures.pictured

pub returns-else-is_file-clause-pictured : goal.returns-else-is_file-clause-pictured
returns-else-is_file-clause-pictured g c = source_of_input maps_alone _ _ _ _ _ _ _ _ _ _ (sym c.is_file.ensures ∙ c.if-is_file.false) c.picture_script.ensures.pictured
