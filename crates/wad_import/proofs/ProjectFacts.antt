-- A map alone in its project.
use Rattle.std.proofs.Common.{◌≡◌, Bool, true, false, not, ◌&&◌, cond, List, [], ◌∷◌, ◌++◌, length, None, refl, sym, ap, ◌∙◌}
use Rattle.std.specs.Prelude.{nat_lt}
use Rattle.std.proofs.lemmas.List.{length-map, nil_from_length}
use Rattle.lump_records.specs.declared.records.Name8.{Name8}
use Rattle.map_tables.specs.Tables.{MapView, Tables, empty_tables}
use Rattle.map_tables.specs.Outcomes.{least}
use Rattle.map_tables.specs.Projects.{MapsView, ProjectMaps, empty_project, is_named, project_of, tables_of_each}
use Rattle.map_tables.specs.ProjectBody.{alone}
use Rattle.map_tables.specs.ProjectEdits.{name_faults}
use Rattle.wad_import.specs.Added.{no_others}

free_by : (t : Bool) → least ((17, nat_lt (cond (not t) 1 0) 1 && not t) ∷ []) ≡ None
free_by true = refl
free_by false = refl

-- a project of one map may have any name
pub name_free : (name : Name8) → least (name_faults empty_project name) ≡ None
name_free name = free_by (is_named name empty_tables)

head_of : Tables → List Tables → Tables
head_of d [] = d
head_of d (m ∷ ms) = m

rest_of : List Tables → List Tables
rest_of [] = []
rest_of (m ∷ ms) = ms

one_map : (before behind : List MapView) (t m : Tables) → before ≡ [] → tables_of_each before ++ t ∷ tables_of_each behind ≡ m ∷ []
    → (t ≡ m) × (behind ≡ [])
unfolding head_of rest_of
one_map before behind t m none e =
    let all : t ∷ tables_of_each behind ≡ m ∷ [] = ap (λ b. tables_of_each b ++ t ∷ tables_of_each behind) (sym none) ∙ e in
    let count : length behind ≡ 0 = sym (length-map behind (λ (v : MapView). v.tables)) ∙ ap (λ ms. length (rest_of ms)) all in
    (ap (head_of t) all, nil_from_length behind count)

-- the parts of a project of one map
pub alone_parts : (v : MapsView) (m : Tables) → project_of v ≡ alone m → (v.tables ≡ m) × (v.others ≡ no_others)
alone_parts v m e =
    let none : v.others.before ≡ [] = nil_from_length v.others.before (ap (λ (p : ProjectMaps). p.current) e) in
    let one = one_map v.others.before v.others.behind v.tables m none (ap (λ (p : ProjectMaps). p.maps) e) in
    (one.0, λ i. record { before = none i; behind = one.1 i })
