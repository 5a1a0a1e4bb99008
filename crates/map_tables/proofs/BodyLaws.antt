-- The laws of bodies.
use Rattle.std.proofs.Common.{◌≡◌, ◌∷◌, length, get_or, drop, sym, ◌∙◌, ap, inl, inr}
use Rattle.std.proofs.lemmas.List.{append-nil}
use Rattle.map_tables.specs.Parts.{part}
use Rattle.map_tables.specs.Body.{body, tables_at}
use Rattle.map_tables.specs.Projects.{ProjectMaps, WellFormedProject, current_map}
use Rattle.map_tables.specs.ProjectBody.{project_body, alone}
use Rattle.map_tables.specs.Laws.{BodiesTellProjects, OneMapKeepsItsLength}
use Rattle.map_tables.proofs.FramedLemmas.{body_holds}
use Rattle.map_tables.proofs.PartsLemmas.{one_list}
use Rattle.map_tables.proofs.ProjectBodyLemmas.{current_fine, apart}

one_new : (p q : ProjectMaps) → WellFormedProject p → WellFormedProject q → project_body p ≡ project_body q → p ≡ q
one_new p q wp wq e =
    let maps = one_list q.maps p.maps wq.maps wp.maps (ap (drop 2) e) in
    let current : p.current ≡ q.current = ap (λ xs. get_or xs 1 0) e in
    λ i. record { maps = maps i; current = current i }

one_old : (p q : ProjectMaps) → WellFormedProject p → WellFormedProject q → p ≡ alone (current_map p) → q ≡ alone (current_map q)
    → body (current_map p) ≡ body (current_map q) → p ≡ q
one_old p q wp wq is_p is_q e =
    let one : current_map p ≡ current_map q = sym (body_holds (current_map p) (current_fine p wp)).1 ∙ ap tables_at e ∙ (body_holds (current_map q) (current_fine q wq)).1 in
    is_p ∙ ap alone one ∙ sym is_q

pub one_project : BodiesTellProjects
one_project p q bytes wp wq (inl e) (inl f) = one_new p q wp wq (e ∙ sym f)
one_project p q bytes wp wq (inl e) (inr f) = absurd (apart p (current_map q) bytes e f.1)
one_project p q bytes wp wq (inr e) (inl f) = absurd (apart q (current_map p) bytes f e.1)
one_project p q bytes wp wq (inr e) (inr f) = one_old p q wp wq e.0 f.0 (e.1 ∙ sym f.1)

pub one_length : OneMapKeepsItsLength
one_length m = ap (λ bytes. length (2 ∷ 0 ∷ bytes)) (append-nil (part m))
