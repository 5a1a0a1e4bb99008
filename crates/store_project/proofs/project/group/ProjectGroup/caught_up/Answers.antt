use Rattle.std.proofs.Common.{◌≡◌, List, ℕ, sym, subst}
use Rattle.std.specs.Prelude.{map}
use Rattle.map_tables.specs.Projects.{MapsView, project_of}
use Rattle.map_commands.specs.ProjectCommands.{project_spelling}
use Rattle.map_commands.specs.declared.project.command.ProjectCommand.{ProjectCommand}
use Rattle.map_commands.specs.ProjectLines.{Leads}
use Rattle.store_journal.specs.Groups.{IsGroupOf}
use Rattle.store_project.specs.Groups.{GroupState}
use Rattle.store_project.proofs.Catching.{one_group}
use Rattle.store_project.proofs.project.group.ProjectGroup.caught_up.Goals as goal

pub returns-in-Ok-clause-led : goal.returns-in-Ok-clause-led
returns-in-Ok-clause-led c = λ lines is.
    let all = map project_spelling c.self.inside.commands.items in
    let same : lines ≡ all = one_group lines all c.self.inside.lines (subst (λ (v : GroupState). IsGroupOf lines v.bytes) (sym c.self.view_is) is) c.self.invariant.0 in
    let led : Leads c.args.cap (project_of c.self.inside.maps) lines (project_of c.in-Ok.group.maps) =
    subst (λ (ls : List (List ℕ)). Leads c.args.cap (project_of c.self.inside.maps) ls (project_of c.in-Ok.group.maps)) (sym same)
    (subst (λ (m : MapsView). Leads c.args.cap (project_of c.self.inside.maps) all (project_of m)) (sym c.in-Ok.ensures.maps)
    (subst (λ (cs : List ProjectCommand). Leads c.args.cap (project_of c.self.inside.maps) (map project_spelling cs) (project_of c.replay.new.maps)) c.deref.ensures.value
    (c.replay.ensures (search (c.if-not-replay.false))))) in
    subst (λ (v : GroupState). Leads c.args.cap (project_of v.maps) lines (project_of c.in-Ok.group.maps)) c.self.view_is led
