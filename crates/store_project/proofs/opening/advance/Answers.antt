use Rattle.std.proofs.Common.{◌≡◌, subst, sym}
use Rattle.map_tables.specs.Projects.{project_of, ProjectMaps}
use Rattle.map_commands.specs.ProjectLines.{LeadsTo}
use Rattle.store_project.proofs.opening.advance.Goals as goal

-- a line that wasn't added at once leaves the project as it was, so it is decided over the same project
pub returns-clause-not_led : goal.returns-clause-not_led
returns-clause-not_led c e new leads =
    let same : project_of c.add_by.new.maps ≡ project_of c.args.maps.now = c.add_by.ensures.stays c.if-add_by.false in
    c.advance_by_parts.ensures.not_led e new (subst (λ (p : ProjectMaps). LeadsTo c.args.cap p c.args.line.now new) (sym same) leads)
