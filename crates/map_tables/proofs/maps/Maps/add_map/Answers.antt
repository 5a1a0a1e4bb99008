-- The map with the new name is among the others.
use Rattle.std.proofs.Common.{◌∙◌, ap}
use Rattle.map_tables.specs.Tables.{Tables}
use Rattle.map_tables.specs.Edits.{with_name}
use Rattle.map_tables.specs.Projects.{project_of, has_map}
use Rattle.map_tables.proofs.ProjectLemmas.{added_is}
use Rattle.map_tables.proofs.maps.Maps.add_map.Goals as goal

pub push-requires-clause-new : goal.push-requires-clause-new
push-requires-clause-new c =
    let made = c.set_name.ensures.edit ∙ ap (λ (t : Tables). with_name t c.args.name) c.new-map.ensures.tables in
    ap (λ (t : Tables). has_map (project_of c.args.self.now) t.name) made ∙ c.requires.new

pub returns : goal.returns
returns c =
    let made = c.set_name.ensures.edit ∙ ap (λ (t : Tables). with_name t c.args.name) c.new-map.ensures.tables in
    c.push.ensures.project ∙ added_is (project_of c.args.self.now) c.args.name c.set_name.new.self.tables c.requires.new made
