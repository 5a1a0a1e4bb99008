use Rattle.std.proofs.Common.{◌∙◌, ap, sym}
use Rattle.map_tables.specs.Outcomes.{least}
use Rattle.map_tables.proofs.ProjectLemmas.{current_of}
use Rattle.map_commands.specs.Step.{faults, number_of}
use Rattle.map_commands.proofs.ProjectSteps.{edited-project}
use Rattle.map_commands.proofs.project.changes.commit_current.Goals as goal

pub change-requires-clause-accepted : goal.change-requires-clause-accepted
change-requires-clause-accepted c =
    ap (λ m. least (faults m c.args.command)) (sym (current_of c.args.maps.now)) ∙ c.requires.current

pub returns-clause-project : goal.returns-clause-project
returns-clause-project c = edited-project c.args.maps.now c.change.new.maps c.args.command c.change.ensures.others c.change.ensures.tables

pub returns-clause-number : goal.returns-clause-number
returns-clause-number c =
    c.change.ensures.number ∙ ap (λ m. number_of m c.args.command) (sym (current_of c.args.maps.now))
