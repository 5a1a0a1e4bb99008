-- The project after selecting, dropping or naming a map, and why each is refused, by rising code.
use Rattle.std.specs.Prelude.{ℕ, ◌+◌, Bool, ◌&&◌, not, nat_lt, if◌then◌else◌, List, [], ◌∷◌, ◌++◌, length, remove, Result, ⊤}
use Rattle.lump_records.specs.declared.records.Name8.{Name8}
use Rattle.map_tables.specs.declared.error.MapError.TheVariants.{TooManyMaps, MapNameTaken, NoSuchMap, CurrentMap}
use Rattle.map_tables.specs.Errors.{code_of}
use Rattle.map_tables.specs.Tables.{empty_tables}
use Rattle.map_tables.specs.Outcomes.{least, unless}
use Rattle.map_tables.specs.Edits.{with_name, lowered}
use Rattle.map_tables.specs.Projects.{ProjectMaps, map_limit, current_map, with_current, is_named, has_map, map_number_of}

-- ---- Why it is refused

-- there is no map with the name, and no room for one more
abbrev pub select_faults : ProjectMaps → Name8 → List (ℕ × Bool)
select_faults p name =
    (code_of TooManyMaps, not (has_map p name) && nat_lt map_limit (length p.maps + 1)) ∷ []

-- there is no map with the name, or it is the current one
abbrev pub drop_map_faults : ProjectMaps → Name8 → List (ℕ × Bool)
drop_map_faults p name = (code_of NoSuchMap, not (has_map p name))
    ∷ (code_of CurrentMap, is_named name (current_map p)) ∷ []

-- a map other than the current one has the name
abbrev pub name_faults : ProjectMaps → Name8 → List (ℕ × Bool)
name_faults p name = (code_of MapNameTaken, has_map p name && not (is_named name (current_map p)))
    ∷ []

-- ---- The project afterwards

-- the map with the name is current; if there is none, an empty one is added last
abbrev pub with_selected : ProjectMaps → Name8 → ProjectMaps
with_selected p name =
    record {
      maps = if has_map p name then p.maps else p.maps ++ with_name empty_tables name ∷ [];
      current = map_number_of p name;
    }

-- the map with the name is removed; each greater number, the current one too, is lowered by one
abbrev pub without_map : ProjectMaps → Name8 → ProjectMaps
without_map p name =
    record {
      maps = remove p.maps (map_number_of p name);
      current =
          lowered (map_number_of p name) p.current;
    }

-- the current map has the name
abbrev pub with_current_named : ProjectMaps → Name8 → ProjectMaps
with_current_named p name = with_current p (with_name (current_map p) name)

-- ---- The outcome of each: the new project and the map's number, or the least code that refuses it

-- the outcome of `map`
abbrev pub selected_map : ProjectMaps → Name8 → Result (ProjectMaps × ℕ) ℕ
selected_map p name =
    unless (least (select_faults p name)) (with_selected p name) (map_number_of p name)

-- the outcome of `drop-map`
abbrev pub dropped_map : ProjectMaps → Name8 → Result (ProjectMaps × ℕ) ℕ
dropped_map p name =
    unless (least (drop_map_faults p name)) (without_map p name) (map_number_of p name)

-- the outcome of `name`
abbrev pub named_map : ProjectMaps → Name8 → Result (ProjectMaps × ⊤) ℕ
named_map p name = unless (least (name_faults p name)) (with_current_named p name) tt
