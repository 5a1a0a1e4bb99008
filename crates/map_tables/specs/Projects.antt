-- The maps of a project: a list of maps with different names, and the number of the current one.
use Rattle.std.specs.Prelude.{◌≢◌, ℕ, ◌+◌, ◌<◌, ◌≤◌, Bool, List, [], ◌∷◌, ◌++◌, length, map, get_or, slice_set, sum_by, bytes_eq, nat_lt, All, AllPairs}
use Rattle.std.specs.List.{position_or_len}
use Rattle.lump_records.specs.declared.records.Name8.{Name8}
use Rattle.map_tables.specs.Tables.{Tables, Counts, MapView, empty_tables, part_len}
use Rattle.map_tables.specs.WellFormed.{WellFormed}

-- a project's maps: a map's number is its index in the list
pub record ProjectMaps : Type 0 where
  pub maps : List Tables
  pub current : ℕ

-- the maps with numbers below and above the current one
pub record Others : Type 0 where
  pub before : List MapView
  pub behind : List MapView

-- `Maps` as contracts see them: the current map's tables and spare places, and the other maps
pub record MapsView : Type 0 where
  pub tables : Tables
  pub spare : Counts
  pub others : Others

-- the tables of each map
abbrev pub tables_of_each : List MapView → List Tables
tables_of_each maps = map (λ m. m.tables) maps

-- the maps as one list
abbrev pub project_of : MapsView → ProjectMaps
project_of v =
    record {
      maps = tables_of_each v.others.before ++ v.tables ∷ tables_of_each v.others.behind;
      current = length v.others.before;
    }

-- how many maps a project may have
abbrev pub map_limit : ℕ
map_limit = 32

-- 1 to 32 well-formed maps, no two with the same name, one of them current
pub record WellFormedProject (p : ProjectMaps) : Type 0 where
  pub count : length p.maps ≤ map_limit
  pub current : p.current < length p.maps
  pub maps : All WellFormed p.maps
  pub names : AllPairs (λ m n. m.name ≢ n.name) p.maps

-- the project that has only the empty map MAP01
abbrev pub empty_project : ProjectMaps
empty_project = record { maps = empty_tables ∷ []; current = 0 }

-- the current map
abbrev pub current_map : ProjectMaps → Tables
current_map p = get_or p.maps p.current empty_tables

-- the project with other tables in place of the current map
abbrev pub with_current : ProjectMaps → Tables → ProjectMaps
with_current p m = record p { maps = slice_set p.maps p.current m }

-- the map has the name
abbrev pub is_named : Name8 → Tables → Bool
is_named name m = bytes_eq m.name.bytes name.bytes

-- the number of the map with the name, or the count of maps if none has it
abbrev pub map_number_of : ProjectMaps → Name8 → ℕ
map_number_of p name = position_or_len (is_named name) p.maps

-- a map of the project has the name
abbrev pub has_map : ProjectMaps → Name8 → Bool
has_map p name = nat_lt (map_number_of p name) (length p.maps)

-- the length of a body
abbrev pub body_len : ProjectMaps → ℕ
body_len p = 2 + sum_by part_len p.maps
