use Rattle.map_commands.specs.declared.command.Command.TheVariants as command
use Rattle.map_areas.proofs.Sofar.{led_more}
use Rattle.map_areas.proofs.drawing.Drawing.put.Goals as goal

pub returns-clause-led : goal.returns-clause-led
returns-clause-led c =
    led_more c.args.map.now.tables c.args.border.now c.args.self.now
    (record { map = c.try_edit.new.map; vertices = c.args.self.now.vertices; lines = c.args.self.now.lines; commands = c.push.new.self })
    (command.Edit c.args.edit) c.requires.led c.requires.draws c.in_ok-try_edit.ensures.taken c.in_ok-push.ensures.items
