use Rattle.std.proofs.Common.{◌≡◌, ◌∙◌, List, false, inr, refl, sym, subst, ap}
use Rattle.map_commands.specs.declared.command.Command.{Command}
use Rattle.map_shapes.specs.Commands.{Becomes, answer_of}
use Rattle.map_tables.specs.Projects.{current_map, project_of}
use Rattle.map_tables.specs.Tables.{Tables}
use Rattle.run_script.specs.Shaped.{has_room}
use Rattle.run_script.proofs.Currents.{current_is}
use Rattle.run_script.proofs.shaping.planned.Goals as goal

pub returns-then-not-has_room-clause-refused : goal.returns-then-not-has_room-clause-refused
returns-then-not-has_room-clause-refused c =
    let p = project_of c.args.maps.now in
    let commands : List Command = c.in-Ok-commands_of.commands.items in
    let shape = c.in-Ok.shape in
    let same = c.current.ensures.tables ∙ current_is c.args.maps.now in
    let none : has_room p c.args.cap commands ≡ false =
    ap (λ (cs : List Command). has_room p c.args.cap cs) (sym c.deref.ensures.value) ∙ sym c.has_room.ensures ∙ c.if-not-has_room.true in
    inr (
      c.code-then-not-has_room.ensures,
      commands,
      answer_of (current_map p) shape,
      record {
        shape = shape;
        spelled = c.in-Ok.ensures.ok.0;
        becomes = subst (λ (m : Tables). Becomes m shape commands) same c.in-Ok-commands_of.ensures.ok;
        answers = refl;
      },
      none,
    )
