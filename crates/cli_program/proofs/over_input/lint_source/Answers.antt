use Rattle.std.proofs.Common.{◌∙◌, sym}
use Rattle.cli_program.proofs.Scripted.{source_of_file, source_of_input}
use Rattle.cli_scripts.specs.ScriptCanvases.{maps_with_origins}
use Rattle.cli_program.proofs.over_input.lint_source.Goals as goal

pub returns-then-is_file-clause-linted : goal.returns-then-is_file-clause-linted
returns-then-is_file-clause-linted g c = source_of_file maps_with_origins _ _ _ _ _ _ _ _ _ (sym c.is_file.ensures ∙ c.if-is_file.true) c.lint_file.ensures.linted

pub returns-else-is_file-clause-linted : goal.returns-else-is_file-clause-linted
returns-else-is_file-clause-linted g c = source_of_input maps_with_origins _ _ _ _ _ _ _ _ _ _ (sym c.is_file.ensures ∙ c.if-is_file.false) c.lint_script.ensures.linted
