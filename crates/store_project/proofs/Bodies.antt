-- How long a project's body is, in either version.
use Rattle.std.proofs.Common.{◌≡◌, ℕ, List, [], length, inl, inr, sym, ◌∙◌, ap, arith}
use Rattle.std.proofs.lemmas.List.Sums.{sum_by-cons}
use Rattle.map_tables.specs.Projects.{ProjectMaps, WellFormedProject, body_len, current_map}
use Rattle.map_tables.specs.ProjectBody.{HasBody, project_body}
use Rattle.map_tables.specs.Tables.{part_len}
use Rattle.map_tables.specs.Tables as of_one
use Rattle.map_tables.proofs.FramedLemmas.{body_size}
use Rattle.map_tables.proofs.PartsLemmas.{parts_size}
use Rattle.map_tables.proofs.ProjectBodyLemmas.{current_fine}

pub project_size : (p : ProjectMaps) (bytes : List ℕ) → WellFormedProject p → HasBody p bytes → length bytes ≡ body_len p
project_size p bytes w (inl e) =
    let whole : length bytes ≡ length (project_body p) = ap length (sym e) in
    let parts = parts_size p.maps w.maps in
    omega (arith, whole, parts)
project_size p bytes w (inr (is, e)) =
    let whole : length bytes ≡ of_one.body_len_of_one (current_map p) = ap length (sym e) ∙ body_size (current_map p) (current_fine p w) in
    let one = sum_by-cons part_len (current_map p) [] in
    let len = ap body_len is in
    omega (arith, whole, one, len)
