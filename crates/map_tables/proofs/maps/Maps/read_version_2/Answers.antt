-- The project has the maps that were read, and the number is that of its current map.
use Rattle.std.proofs.Common.{◌≡◌, ◌∙◌, ◌-◌, ℕ, List, ◌∷◌, length, get_or, take, drop, take_all, length-drop, refl, sym, ap, subst, arith, rules}
use Rattle.map_tables.specs.Projects.{project_of}
use Rattle.map_tables.specs.ProjectBody.{IsProjectOf}
use Rattle.map_tables.proofs.FramedLemmas.{refused_by}
use Rattle.map_tables.proofs.ProjectBodyLemmas.{no_project, no_current, project_read}
use Rattle.map_tables.proofs.maps.Maps.read_version_2.Goals as goal

behind : (bs : List ℕ) (k : ℕ) → bs ≡ 2 ∷ k ∷ drop 2 bs → bs ≡ 2 ∷ k ∷ take (length bs - 2) (drop 2 bs)
behind bs k is = is ∙ ap (λ r. 2 ∷ k ∷ r) (sym (take_all (length bs - 2) (drop 2 bs) (omega (arith, length-drop 2 bs))))

pub returns-in_err-read_maps-clause-refused : goal.returns-in_err-read_maps-clause-refused
returns-in_err-read_maps-clause-refused c =
    let bs = c.args.bytes.now in
    let k = get_or bs 1 0 in
    refused_by (no_project bs (take (length bs - 2) (drop 2 bs)) k (behind bs k c.requires)) c.from_residual.result c.in_err-read_maps.field-0.0 c.from_residual.ensures.1 c.in_err-read_maps.ensures.refused

pub returns-then-len-number-clause-refused : goal.returns-then-len-number-clause-refused
returns-then-len-number-clause-refused c =
    let bs = c.args.bytes.now in
    let k = get_or bs 1 0 in
    (refl, no_current bs (take (length bs - 2) (drop 2 bs)) k (behind bs k c.requires) (project_of c.read_maps.new.self) c.in_ok-read_maps.ensures.maps (omega (arith, c.len.ensures.value)))

pub returns-clause-project : goal.returns-clause-project
returns-clause-project c =
    let bs = c.args.bytes.now in
    let k = get_or bs 1 0 in
    let q = project_of c.read_maps.new.self in
    let is : c.from-number.result ≡ k = search rules in
    subst (IsProjectOf bs) (sym c.make_current.ensures)
    (subst (λ (n : ℕ). IsProjectOf bs (record { maps = q.maps; current = n })) (sym is)
    (project_read bs (take (length bs - 2) (drop 2 bs)) k (behind bs k c.requires) (project_of c.read_maps.new.self) c.in_ok-read_maps.ensures.maps (omega (arith, c.len.ensures.value))))
