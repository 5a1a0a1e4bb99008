-- What the lines of dumped levels lead to.
use Rattle.std.specs.Prelude.{◌≢◌, ℕ, ◌≤◌, Bool, AllPairs, All, List, length}
use Rattle.map_commands.specs.ProjectLines.{Leads}
use Rattle.map_dump.specs.Laws.{HoldsItsLines}
use Rattle.map_dump.specs.MapDumps.{HoldsMaps, map_dumps_of, maps_with}
use Rattle.wad_levels.specs.declared.entries.LevelEntries.{LevelEntries}
use Rattle.map_tables.specs.Projects.{ProjectMaps, body_len, empty_project, map_limit}
use Rattle.map_tables.specs.WellFormed.{WellFormed}
use Rattle.cli_dump.specs.LevelDumps.{dumped_maps}

-- the levels that are dumped have room in one project: with MAP01 they are at most 32, and no two
-- have one name
pub record HaveRoom (exact : Bool) (wad : List ℕ) (ls : List LevelEntries) : Type 0 where
  pub count : length (maps_with (dumped_maps exact wad ls)) ≤ map_limit
  pub names : AllPairs (λ m n. m.name ≢ n.name) (dumped_maps exact wad ls)

-- the text that was written is cut into lines, each of which is accepted; and they lead from the empty
-- project to one that has, beside MAP01, exactly the maps that these levels are
pub record DrawLevels (exact : Bool) (wad : List ℕ) (ls : List LevelEntries) : Type 0 where
  pub cut : HoldsItsLines (map_dumps_of (dumped_maps exact wad ls))
  pub drawn : ProjectMaps
  pub holds : HoldsMaps (dumped_maps exact wad ls) drawn
  pub leads : (cap : ℕ) → body_len drawn ≤ cap
      → Leads cap empty_project (map_dumps_of (dumped_maps exact wad ls)) drawn

-- so the lines of all levels that were dumped, as `AreDumped` has them, draw them where they have room
abbrev pub DumpedLevelsDraw : Type 0
DumpedLevelsDraw =
    (exact : Bool) (wad : List ℕ) (ls : List LevelEntries)
    → All WellFormed (dumped_maps exact wad ls) → HaveRoom exact wad ls → DrawLevels exact wad ls
