-- The current map among the maps.
use Rattle.std.proofs.Common.{◌≡◌, List, [], ◌∷◌, ◌++◌, length, get_or, refl, sym, ◌∙◌, ap}
use Rattle.std.proofs.lemmas.List.{length-map}
use Rattle.map_tables.specs.Projects.{MapsView, current_map, project_of, tables_of_each}
use Rattle.map_tables.specs.Tables.{MapView, empty_tables}

behind_front : {X : Type 0} (xs ys : List X) (y d : X) → get_or (xs ++ y ∷ ys) (length xs) d ≡ y
behind_front [] ys y d = refl
behind_front (x ∷ xs) ys y d = behind_front xs ys y d

-- the current map
pub current_is : (v : MapsView) → v.tables ≡ current_map (project_of v)
current_is v =
    let front = tables_of_each v.others.before in
    let all = front ++ v.tables ∷ tables_of_each v.others.behind in
    let len : length front ≡ length v.others.before = length-map v.others.before (λ (m : MapView). m.tables) in
    sym (ap (λ n. get_or all n empty_tables) (sym len) ∙ behind_front front (tables_of_each v.others.behind) v.tables empty_tables)
