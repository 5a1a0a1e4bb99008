use Rattle.std.proofs.Common.{◌∙◌, ap, sym}
use Rattle.std.specs.List.{join_with_byte}
use Rattle.map_tables.specs.declared.edit.Edit.TheVariants.{Add}
use Rattle.map_commands.specs.declared.command.Command.TheVariants.{Edit}
use Rattle.map_commands.specs.declared.project.command.ProjectCommand.TheVariants.{Current}
use Rattle.map_commands.proofs.Lines.{join-parts}
use Rattle.map_commands.proofs.project.adding.add.Goals as goal

-- the item's command has the line's words
pub returns-in-Some-clause-led : goal.returns-in-Some-clause-led
returns-in-Some-clause-led c _ line words = (
  c.in-Some.field-0,
  record {
    command = Current (Edit (Add c.args.item));
    range = c.requires.range;
    line_is = sym (join-parts line) ∙ ap (join_with_byte 32) words;
    stepped = c.in-Some.ensures.added;
  },
)
