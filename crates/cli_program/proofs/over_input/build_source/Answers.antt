use Rattle.std.proofs.Common.{◌∙◌, sym}
use Rattle.cli_program.proofs.Scripted.{source_of_file, source_of_input}
use Rattle.cli_scripts.specs.ScriptCanvases.{maps_alone}
use Rattle.cli_program.proofs.over_input.build_source.Goals as goal

pub returns-then-is_file-clause-built : goal.returns-then-is_file-clause-built
returns-then-is_file-clause-built g c = source_of_file maps_alone _ _ _ _ _ _ _ _ _ (sym c.is_file.ensures ∙ c.if-is_file.true) c.build_file.ensures.built

pub returns-else-is_file-clause-built : goal.returns-else-is_file-clause-built
returns-else-is_file-clause-built g c = source_of_input maps_alone _ _ _ _ _ _ _ _ _ _ (sym c.is_file.ensures ∙ c.if-is_file.false) c.build_script.ensures.built
