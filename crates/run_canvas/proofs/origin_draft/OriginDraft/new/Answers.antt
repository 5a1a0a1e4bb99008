use Rattle.std.proofs.Common.{◌≡◌, ◌≤◌, refl, sym, subst, arith}
use Rattle.map_tables.specs.Projects.{ProjectMaps, body_len, empty_project, project_of}
use Rattle.run_canvas.proofs.Origins.{first_each}
use Rattle.run_canvas.proofs.origin_draft.OriginDraft.new.Goals as goal

pub invariant_of-result : goal.invariant_of-result
invariant_of-result c =
    let small : body_len empty_project ≡ 20 = refl in
    record {
      fits = subst (λ (p : ProjectMaps). body_len p ≤ 2007002) (sym c.new-2.ensures.project) (omega (arith, small));
      each = first_each (project_of c.new-2.result) c.new.result c.new_in-origins.result.items c.push.new.self.items c.new-2.ensures.project c.new_in-origins.ensures c.push.ensures.items
          c.new.ensures;
    }
