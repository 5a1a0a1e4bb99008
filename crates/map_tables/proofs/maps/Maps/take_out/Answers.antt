-- The other maps close up, and the current map's number is lowered if a map before it was removed.
use Rattle.std.proofs.Common.{◌≡◌, ◌≢◌, ◌-◌, ◌<◌, ◌++◌, ◌∷◌, subst, sym, ◌∙◌, ap, length, take, drop, arith, length-take-le}
use Rattle.std.specs.List.{remove}
use Rattle.map_tables.specs.Edits.{lowered}
use Rattle.map_tables.specs.Projects.{MapsView, project_of, tables_of_each}
use Rattle.map_tables.specs.MapsFields.{maps_view}
use Rattle.map_tables.proofs.ProjectLemmas.{out_below, out_above, out_keeps, maps_count}
use Rattle.map_tables.proofs.maps.Maps.take_out.Goals as goal

pub invariant_of-self : goal.invariant_of-self
invariant_of-self c =
    let a = c.self.inside in
    let items' = c.remove.new.self.items in
    let size = length-take-le a.number a.others.items c.self.invariant.number in
    let within : c.args.n < length (project_of (maps_view a)).maps = subst (λ (v : MapsView). c.args.n < length (project_of v).maps) (sym c.self.view_is) c.requires.there in
    let other : c.args.n ≢ length (take a.number a.others.items) = subst (λ (v : MapsView). c.args.n ≢ (project_of v).current) (sym c.self.view_is) c.requires.other in
    let count = maps_count a.others.items a.number a.map c.self.invariant.number in
    let apart : c.args.n ≢ a.number = λ e. other (e ∙ sym size) in
    let all = out_below a.others.items items' a.number (a.number - 1) c.args.n a.map c.self.invariant.number (omega arith) (omega arith) c.remove.ensures.items in
    let is : length (take (a.number - 1) items') ≡ lowered c.args.n (length (take a.number a.others.items)) = all.1 ∙ ap (lowered c.args.n) (sym size) in
    record {
      number = all.2;
      project =
          out_keeps (project_of (maps_view a)) (tables_of_each (take (a.number - 1) items') ++ a.map.tables
          ∷ tables_of_each (drop (a.number - 1) items')) c.args.n
          (length (take (a.number - 1) items')) all.0 is within other c.self.invariant.project;
    }

pub returns-then-n-self : goal.returns-then-n-self
returns-then-n-self c =
    let a = c.self.inside in
    let items' = c.remove.new.self.items in
    let size = length-take-le a.number a.others.items c.self.invariant.number in
    let within : c.args.n < length (project_of (maps_view a)).maps = subst (λ (v : MapsView). c.args.n < length (project_of v).maps) (sym c.self.view_is) c.requires.there in
    let other : c.args.n ≢ length (take a.number a.others.items) = subst (λ (v : MapsView). c.args.n ≢ (project_of v).current) (sym c.self.view_is) c.requires.other in
    let count = maps_count a.others.items a.number a.map c.self.invariant.number in
    let apart : c.args.n ≢ a.number = λ e. other (e ∙ sym size) in
    let all = out_below a.others.items items' a.number (a.number - 1) c.args.n a.map c.self.invariant.number (omega arith) (omega arith) c.remove.ensures.items in
    let is : length (take (a.number - 1) items') ≡ lowered c.args.n (length (take a.number a.others.items)) = all.1 ∙ ap (lowered c.args.n) (sym size) in
    subst (λ (v : MapsView). project_of (maps_view
    (record { map = a.map; number = a.number - 1; others = c.remove.new.self }))
    ≡ record {
      maps = remove (project_of v).maps c.args.n;
      current =
          lowered c.args.n (project_of v).current;
    }) c.self.view_is (λ i. record { maps = all.0 i; current = is i })

pub invariant_of-self-else-n-self : goal.invariant_of-self-else-n-self
invariant_of-self-else-n-self c =
    let a = c.self.inside in
    let items' = c.remove-else-n-self.new.self.items in
    let size = length-take-le a.number a.others.items c.self.invariant.number in
    let within : c.args.n < length (project_of (maps_view a)).maps = subst (λ (v : MapsView). c.args.n < length (project_of v).maps) (sym c.self.view_is) c.requires.there in
    let other : c.args.n ≢ length (take a.number a.others.items) = subst (λ (v : MapsView). c.args.n ≢ (project_of v).current) (sym c.self.view_is) c.requires.other in
    let count = maps_count a.others.items a.number a.map c.self.invariant.number in
    let apart : c.args.n ≢ a.number = λ e. other (e ∙ sym size) in
    let all = out_above a.others.items items' a.number c.args.n (c.args.n - 1) a.map (omega arith) (omega arith) (omega (arith, count, within)) c.remove-else-n-self.ensures.items in
    let is : length (take a.number items') ≡ lowered c.args.n (length (take a.number a.others.items)) = all.1 ∙ ap (lowered c.args.n) (sym size) in
    record {
      number = all.2;
      project =
          out_keeps (project_of (maps_view a)) (tables_of_each (take a.number items') ++ a.map.tables
          ∷ tables_of_each (drop a.number items')) c.args.n
          (length (take a.number items')) all.0 is within other c.self.invariant.project;
    }

pub returns-else-n-self : goal.returns-else-n-self
returns-else-n-self c =
    let a = c.self.inside in
    let items' = c.remove-else-n-self.new.self.items in
    let size = length-take-le a.number a.others.items c.self.invariant.number in
    let within : c.args.n < length (project_of (maps_view a)).maps = subst (λ (v : MapsView). c.args.n < length (project_of v).maps) (sym c.self.view_is) c.requires.there in
    let other : c.args.n ≢ length (take a.number a.others.items) = subst (λ (v : MapsView). c.args.n ≢ (project_of v).current) (sym c.self.view_is) c.requires.other in
    let count = maps_count a.others.items a.number a.map c.self.invariant.number in
    let apart : c.args.n ≢ a.number = λ e. other (e ∙ sym size) in
    let all = out_above a.others.items items' a.number c.args.n (c.args.n - 1) a.map (omega arith) (omega arith) (omega (arith, count, within)) c.remove-else-n-self.ensures.items in
    let is : length (take a.number items') ≡ lowered c.args.n (length (take a.number a.others.items)) = all.1 ∙ ap (lowered c.args.n) (sym size) in
    subst (λ (v : MapsView). project_of (maps_view
    (record { map = a.map; number = a.number; others = c.remove-else-n-self.new.self }))
    ≡ record {
      maps = remove (project_of v).maps c.args.n;
      current =
          lowered c.args.n (project_of v).current;
    }) c.self.view_is (λ i. record { maps = all.0 i; current = is i })
