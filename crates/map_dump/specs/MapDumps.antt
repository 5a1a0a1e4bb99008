-- What the dumps of single maps draw, alone or one after another.
use Rattle.std.specs.Prelude.{◌≡◌, ◌≢◌, ℕ, ◌-◌, ◌<◌, ◌≤◌, Bool, not, List, ◌∷◌, length, get_or, filter, flat_map, All, AllPairs}
use Rattle.lump_records.specs.declared.records.Name8.{Name8}
use Rattle.map_tables.specs.Tables.{Tables, empty_tables}
use Rattle.map_tables.specs.WellFormed.{WellFormed}
use Rattle.map_tables.specs.Edits.{with_name}
use Rattle.map_tables.specs.Projects.{ProjectMaps, body_len, current_map, empty_project, map_limit, with_current}
use Rattle.map_tables.specs.ProjectEdits.{with_selected}
use Rattle.map_commands.specs.ProjectLines.{Leads}
use Rattle.map_dump.specs.Dump.{is_map01, map_dump_of}
use Rattle.map_dump.specs.Laws.{HoldsItsLines}

-- ---- one map

-- the project with this map as its current one: in place of the map with its name, or last if there is none
abbrev pub with_map : ProjectMaps → Tables → ProjectMaps
with_map p m = with_current (with_selected p m.name) m

-- the project has room for a map with the name: its own map with that name has no item, or it has no such map and
-- fewer than 32 maps
pub record HasRoomFor (p : ProjectMaps) (name : Name8) : Type 0 where
  pub empty : current_map (with_selected p name) ≡ with_name empty_tables name
  pub count : length (with_selected p name).maps ≤ map_limit

-- the maps with other names keep their numbers and items, and no map with another name is added
pub record KeepsOthers (name : Name8) (old new : ProjectMaps) : Type 0 where
  pub fewer : length old.maps ≤ length new.maps
  pub others : (k : ℕ) (d : Tables) → k < length old.maps → (get_or old.maps k d).name ≢ name
      → get_or new.maps k d ≡ get_or old.maps k d
  pub only : (k : ℕ) (d : Tables) → length old.maps ≤ k → k < length new.maps
      → (get_or new.maps k d).name ≡ name

-- each line of the map's dump is accepted, and the lines lead from the project to the one with this map, at each
-- limit that is at least the length of its body; the other maps stay as they were
pub record DrawsMapOver (p : ProjectMaps) (m : Tables) : Type 0 where
  pub leads : (cap : ℕ) → body_len (with_map p m) ≤ cap → Leads cap p (map_dump_of m) (with_map p m)
  pub current : current_map (with_map p m) ≡ m
  pub others : KeepsOthers m.name p (with_map p m)

-- every well-formed map is drawn by its dump over every project that has room for it
abbrev pub MapDumpsDraw : Type 0
MapDumpsDraw =
    (p : ProjectMaps) (m : Tables) → WellFormed m → HasRoomFor p m.name → DrawsMapOver p m

-- ---- maps one after another

-- the lines of the maps' dumps, one dump after another
abbrev pub map_dumps_of : List Tables → List (List ℕ)
map_dumps_of ms = flat_map map_dump_of ms

-- the map's name is MAP01, as in the empty project
abbrev pub has_first_name : Tables → Bool
has_first_name m = is_map01 m.name

-- the maps of a project in which these were drawn: MAP01, which is empty if none of these has this name, and then
-- the others in their order
abbrev pub maps_with : List Tables → List Tables
maps_with ms = get_or (filter has_first_name ms) 0 empty_tables
    ∷ filter (λ m. not (has_first_name m)) ms

-- the maps fit in one project: they are well-formed, at most 32 with MAP01 counted, and no two have the same name
pub record AreOfOneProject (ms : List Tables) : Type 0 where
  pub count : length (maps_with ms) ≤ map_limit
  pub maps : All WellFormed ms
  pub names : AllPairs (λ m n. m.name ≢ n.name) ms

-- the project has exactly these maps and MAP01; the last of these is current
pub record HoldsMaps (ms : List Tables) (p : ProjectMaps) : Type 0 where
  pub maps : p.maps ≡ maps_with ms
  pub current : p.current < length p.maps
  pub last : current_map p ≡ get_or ms (length ms - 1) empty_tables

-- each line of the maps' dumps is accepted, and the lines lead from the empty project to one with these maps, at
-- each limit that is at least the length of its body
abbrev pub MapDumpsDrawAll : Type 0
MapDumpsDrawAll =
    (ms : List Tables) → AreOfOneProject ms
    → (p : ProjectMaps) × HoldsMaps ms p × ((cap : ℕ) → body_len p ≤ cap
    → Leads cap empty_project (map_dumps_of ms) p)

-- the text of well-formed maps' dumps is cut into the lines of the dumps
abbrev pub MapDumpsAreCutIntoLines : Type 0
MapDumpsAreCutIntoLines = (ms : List Tables) → All WellFormed ms → HoldsItsLines (map_dumps_of ms)
