-- Among the others, the map's index is one less if it comes after the current map.
use Rattle.std.proofs.Common.{◌≡◌, ◌+◌, ◌-◌, ◌<◌, length, get_or, subst, ap, sym, ◌∙◌, arith}
use Rattle.map_tables.specs.Projects.{MapsView, project_of}
use Rattle.map_tables.specs.MapsFields.{maps_view}
use Rattle.map_tables.proofs.ProjectLemmas.{map_below, map_above, maps_count}
use Rattle.map_tables.proofs.maps.Maps.nth.Goals as goal

pub returns : goal.returns
returns c =
    let a = c.self.inside in
    let items = a.others.items in
    let count = maps_count items a.number a.map c.self.invariant.number in
    let within : c.args.n < length (project_of (maps_view a)).maps = subst (λ (v : MapsView). c.args.n < length (project_of v).maps) (sym c.self.view_is) c.requires in
    let back : c.args.n - 1 + 1 ≡ c.args.n = omega arith in
    let there : get_or items (c.args.n - 1) c.index-deref-n-2.result ≡ c.index-deref-n-2.result =
    ap (λ xs. get_or xs (c.args.n - 1) c.index-deref-n-2.result) (sym c.deref-2.ensures.0)
    ∙ sym c.index-deref-n-2.is in
    λ d. subst (λ (v : MapsView). get_or (project_of v).maps c.args.n d ≡ c.index-deref-n-2.result.tables) c.self.view_is
    (ap (λ k. get_or (project_of (maps_view a)).maps k d) (sym back) ∙ map_above items a.number (c.args.n - 1) a.map c.index-deref-n-2.result d (omega arith) (omega (arith, count, within)) there)

pub returns-then-n-self : goal.returns-then-n-self
returns-then-n-self c =
    let a = c.self.inside in
    let items = a.others.items in
    let there : get_or items c.args.n c.index-deref-n.result ≡ c.index-deref-n.result = ap (λ xs. get_or xs c.args.n c.index-deref-n.result) (sym c.deref.ensures.0) ∙ sym c.index-deref-n.is in
    λ d. subst (λ (v : MapsView). get_or (project_of v).maps c.args.n d ≡ c.index-deref-n.result.tables) c.self.view_is
    (map_below items a.number c.args.n a.map c.index-deref-n.result d c.self.invariant.number (omega arith) there)
