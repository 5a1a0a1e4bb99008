use Rattle.std.proofs.Common.{◌≡◌, subst}
use Rattle.map_tables.specs.Outcomes.{least, EndsExactly}
use Rattle.map_tables.specs.Projects.{ProjectMaps, empty_project, project_of}
use Rattle.map_tables.specs.ProjectBody.{alone}
use Rattle.map_tables.specs.ProjectEdits.{name_faults, named_map, with_current_named}
use Rattle.map_tables.specs.Edits.{with_name}
use Rattle.map_tables.specs.Tables.{empty_tables}
use Rattle.wad_import.proofs.NextLemmas.{ends_well}
use Rattle.wad_import.proofs.ProjectFacts.{alone_parts, name_free}
use Rattle.wad_import.proofs.import.named_maps.Goals as goal

pub returns : goal.returns
returns c =
    let new = c.set_name.new.self in
    let edit : EndsExactly c.set_name.result (named_map empty_project c.args.name) empty_project (project_of new) =
    subst (λ (p : ProjectMaps). EndsExactly c.set_name.result (named_map p c.args.name) p (project_of new)) c.new-maps.ensures.project
    c.set_name.ensures.edit in
    let is : project_of new ≡ alone (with_name empty_tables c.args.name) =
    ends_well c.set_name.result (least (name_faults empty_project c.args.name)) (with_current_named empty_project c.args.name) (project_of new)
    empty_project tt (name_free c.args.name) edit in
    let parts = alone_parts new (with_name empty_tables c.args.name) is in
    record { tables = parts.0; others = parts.1 }
