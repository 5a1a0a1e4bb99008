-- No other map has the name, so the names still differ.
use Rattle.std.proofs.Common.{◌≡◌, None, subst, sym, refl}
use Rattle.std.specs.Prelude.{Ok}
use Rattle.map_tables.specs.Outcomes.{least}
use Rattle.map_tables.specs.Projects.{MapsView, project_of}
use Rattle.map_tables.specs.ProjectEdits.{name_faults, named_map}
use Rattle.map_tables.specs.MapsFields.{maps_view}
use Rattle.map_tables.proofs.ProjectLemmas.{named_keeps, named_edit}
use Rattle.map_tables.proofs.maps.Maps.set_name.Goals as goal

pub invariant_of-self : goal.invariant_of-self
invariant_of-self c =
    named_keeps c.self.inside c.set_name.new.self c.args.name c.set_name.ensures.edit c.set_name.ensures.well_formed
    (subst (λ (v : MapsView). least (name_faults (project_of v) c.args.name) ≡ None) (sym c.self.view_is) c.in_ok-can_set_name.ensures) c.self.invariant

pub returns-clause-edit : goal.returns-clause-edit
returns-clause-edit c =
    let after = maps_view (record { map = c.set_name.new.self; number = c.self.inside.number; others = c.self.inside.others }) in
    subst (λ (v : MapsView). named_map (project_of v) c.args.name ≡ Ok (project_of after, tt)) c.self.view_is
    (named_edit (maps_view c.self.inside) after c.args.name refl c.set_name.ensures.edit
    (subst (λ (v : MapsView). least (name_faults (project_of v) c.args.name) ≡ None) (sym c.self.view_is) c.in_ok-can_set_name.ensures))
