-- The map that was current is put among the others, and the one with the number is taken out of them.
use Rattle.std.proofs.Common.{◌≡◌, ◌<◌, ◌++◌, ◌∷◌, List, subst, sym, ◌∙◌, ap, length, take, drop, arith}
use Rattle.std.specs.List.{insert, remove}
use Rattle.map_tables.specs.Tables.{MapView}
use Rattle.map_tables.specs.Projects.{MapsView, project_of, tables_of_each}
use Rattle.map_tables.specs.MapsFields.{maps_view}
use Rattle.map_tables.proofs.ProjectLemmas.{chosen, chosen_keeps, maps_count}
use Rattle.map_tables.proofs.maps.Maps.make_current.Goals as goal

pub invariant_of-self : goal.invariant_of-self
invariant_of-self c =
    let a = c.self.inside in
    let items' = c.remove.new.self.items in
    let x = c.remove.result in
    let within : c.args.n < length (project_of (maps_view a)).maps = subst (λ (v : MapsView). c.args.n < length (project_of v).maps) (sym c.self.view_is) c.requires in
    let whole : c.insert.new.self.items ≡ insert a.others.items a.number a.map = c.insert.ensures.items ∙ ap (λ (m : MapView). insert a.others.items a.number m) c.replace-previous.ensures.value in
    let count = maps_count a.others.items a.number a.map c.self.invariant.number in
    let all = chosen a.others.items items' a.number c.args.n a.map x c.self.invariant.number
    (omega (arith, count, within)) (c.remove.ensures.items ∙ ap (λ (l : List MapView). remove l c.args.n) whole)
    (rw whole at c.remove.ensures.value) in
    record {
      number = all.2;
      project = chosen_keeps (project_of (maps_view a)).maps
          (tables_of_each (take c.args.n items') ++ x.tables ∷ tables_of_each (drop c.args.n items'))
          (length (take a.number a.others.items)) c.args.n
          (length (take c.args.n items')) all.0 all.1 within c.self.invariant.project;
    }

pub returns : goal.returns
returns c =
    let a = c.self.inside in
    let items' = c.remove.new.self.items in
    let x = c.remove.result in
    let within : c.args.n < length (project_of (maps_view a)).maps = subst (λ (v : MapsView). c.args.n < length (project_of v).maps) (sym c.self.view_is) c.requires in
    let whole : c.insert.new.self.items ≡ insert a.others.items a.number a.map = c.insert.ensures.items ∙ ap (λ (m : MapView). insert a.others.items a.number m) c.replace-previous.ensures.value in
    let count = maps_count a.others.items a.number a.map c.self.invariant.number in
    let all = chosen a.others.items items' a.number c.args.n a.map x c.self.invariant.number
    (omega (arith, count, within)) (c.remove.ensures.items ∙ ap (λ (l : List MapView). remove l c.args.n) whole)
    (rw whole at c.remove.ensures.value) in
    let is : project_of (maps_view (record { map = x; number = c.args.n; others = c.remove.new.self }))
    ≡ record { maps = (project_of (maps_view a)).maps; current = c.args.n } = λ i.
    record { maps = all.0 i; current = all.1 i } in
    subst (λ (v : MapsView). project_of (maps_view (record { map = x; number = c.args.n; others = c.remove.new.self })) ≡ record { maps = (project_of v).maps; current = c.args.n }) c.self.view_is is

pub insert-requires : goal.insert-requires
insert-requires c =
    let a = c.self.inside in
    let count = maps_count a.others.items a.number a.map c.self.invariant.number in
    (omega arith, (c.self.invariant.number, omega (arith, count, c.self.invariant.project.count)))

pub remove-requires : goal.remove-requires
remove-requires c =
    let a = c.self.inside in
    let count = maps_count a.others.items a.number a.map c.self.invariant.number in
    let within : c.args.n < length (project_of (maps_view a)).maps = subst (λ (v : MapsView). c.args.n < length (project_of v).maps) (sym c.self.view_is) c.requires in
    omega (arith, count, within, c.insert.ensures.len)
