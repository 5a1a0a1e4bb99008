-- The map that was current is among the others, and the new one is last.
use Rattle.std.proofs.Common.{◌≡◌, ◌<◌, ◌++◌, ◌∷◌, false, subst, sym, ◌∙◌, ap, length, take, drop, arith}
use Rattle.std.specs.List.{insert}
use Rattle.map_tables.specs.Tables.{MapView}
use Rattle.map_tables.specs.WellFormed.{WellFormed}
use Rattle.map_tables.specs.Projects.{MapsView, project_of, tables_of_each, has_map, map_limit}
use Rattle.map_tables.specs.ProjectBody.{with_last}
use Rattle.map_tables.specs.MapsFields.{maps_view}
use Rattle.map_tables.proofs.ProjectLemmas.{added, added_keeps, maps_count}
use Rattle.map_tables.proofs.maps.Maps.push.Goals as goal

pub invariant_of-self : goal.invariant_of-self
invariant_of-self c =
    let a = c.self.inside in
    let items' = c.insert.new.self.items in
    let x = c.replace-previous.new.dest in
    let is : items' ≡ insert a.others.items a.number a.map = c.insert.ensures.items ∙ ap (λ (m : MapView). insert a.others.items a.number m) c.replace-previous.ensures.value in
    let both = added a.others.items items' a.number c.len-self-inside.result a.map x c.self.invariant.number is c.len-self-inside.ensures.value in
    let made : x ≡ c.args.map = c.replace-previous.ensures.after in
    record {
      number = omega (arith, c.len-self-inside.ensures.value);
      project = added_keeps (project_of (maps_view a))
          (tables_of_each (take c.len-self-inside.result items') ++ x.tables
          ∷ tables_of_each (drop c.len-self-inside.result items'))
          (length (take c.len-self-inside.result items')) c.args.map.tables.name x.tables both.0 both.1
          (ap (λ (m : MapView). m.tables.name) made) (subst (λ (m : MapView). WellFormed m.tables) (sym made) c.requires.well_formed)
          (subst (λ (v : MapsView). has_map (project_of v) c.args.map.tables.name ≡ false) (sym c.self.view_is) c.requires.new)
          (subst (λ (v : MapsView). length (project_of v).maps < map_limit) (sym c.self.view_is) c.requires.room) c.self.invariant.project;
    }

pub returns-clause-project : goal.returns-clause-project
returns-clause-project c =
    let a = c.self.inside in
    let items' = c.insert.new.self.items in
    let x = c.replace-previous.new.dest in
    let is : items' ≡ insert a.others.items a.number a.map = c.insert.ensures.items ∙ ap (λ (m : MapView). insert a.others.items a.number m) c.replace-previous.ensures.value in
    let both = added a.others.items items' a.number c.len-self-inside.result a.map x c.self.invariant.number is c.len-self-inside.ensures.value in
    (λ i. record { maps = both.0 i; current = both.1 i })
    ∙ ap (λ (m : MapView). with_last (project_of (maps_view a)) m.tables) c.replace-previous.ensures.after
    ∙ ap (λ (v : MapsView). with_last (project_of v) c.args.map.tables) c.self.view_is

pub returns-clause-well_formed : goal.returns-clause-well_formed
returns-clause-well_formed c =
    let a = c.self.inside in
    let items' = c.insert.new.self.items in
    let x = c.replace-previous.new.dest in
    let is : items' ≡ insert a.others.items a.number a.map = c.insert.ensures.items ∙ ap (λ (m : MapView). insert a.others.items a.number m) c.replace-previous.ensures.value in
    let both = added a.others.items items' a.number c.len-self-inside.result a.map x c.self.invariant.number is c.len-self-inside.ensures.value in
    let made : x ≡ c.args.map = c.replace-previous.ensures.after in
    added_keeps (project_of (maps_view a)) (tables_of_each (take c.len-self-inside.result items') ++ x.tables
    ∷ tables_of_each (drop c.len-self-inside.result items'))
    (length (take c.len-self-inside.result items')) c.args.map.tables.name x.tables both.0 both.1
    (ap (λ (m : MapView). m.tables.name) made) (subst (λ (m : MapView). WellFormed m.tables) (sym made) c.requires.well_formed)
    (subst (λ (v : MapsView). has_map (project_of v) c.args.map.tables.name ≡ false) (sym c.self.view_is) c.requires.new)
    (subst (λ (v : MapsView). length (project_of v).maps < map_limit) (sym c.self.view_is) c.requires.room) c.self.invariant.project

pub insert-requires : goal.insert-requires
insert-requires c =
    let a = c.self.inside in
    let count = maps_count a.others.items a.number a.map c.self.invariant.number in
    let room : length (project_of (maps_view a)).maps < map_limit = subst (λ (v : MapsView). length (project_of v).maps < map_limit) (sym c.self.view_is) c.requires.room in
    (omega arith, (c.self.invariant.number, omega (arith, count, room)))
