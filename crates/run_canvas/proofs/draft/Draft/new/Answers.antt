use Rattle.std.proofs.Common.{◌≡◌, ◌≤◌, refl, sym, subst, arith}
use Rattle.map_tables.specs.Projects.{ProjectMaps, body_len, empty_project}
use Rattle.run_canvas.proofs.draft.Draft.new.Goals as goal

pub invariant_of-result : goal.invariant_of-result
invariant_of-result c =
    let small : body_len empty_project ≡ 20 = refl in
    subst (λ (p : ProjectMaps). body_len p ≤ 2007002) (sym c.new.ensures.project) (omega (arith, small))
