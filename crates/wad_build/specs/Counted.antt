-- The counts of a build: how many records the levels of a PWAD have.
use Rattle.std.specs.Prelude.{◌≡◌, ℕ, ◌+◌, List, length, map, sum_by}
use Rattle.lump_records.specs.Names.{name_text}
use Rattle.map_tables.specs.Tables.{Tables}
use Rattle.wad_levels.specs.Levels.{Lumps, lumps_behind, marker_at}
use Rattle.wad_build.specs.Projects.{IsSoundBuildOfAll}
use Rattle.wad_build.specs.declared.counted.BuildCounts.{BuildCounts}

-- the counts are those of the records of these levels in all, and this number of bytes
pub record CountsLevels (levels : List Lumps) (len : ℕ) (c : BuildCounts) : Type 0 where
  pub vertices : c.vertices ≡ sum_by (λ l. length l.vertices) levels
  pub segs : c.segs ≡ sum_by (λ l. length l.segs) levels
  pub subs : c.subs ≡ sum_by (λ l. length l.subs) levels
  pub nodes : c.nodes ≡ sum_by (λ l. length l.nodes) levels
  pub bytes : c.bytes ≡ len

-- the counts of one more level were added
pub record CountsMore (old : BuildCounts) (l : Lumps) (new : BuildCounts) : Type 0 where
  pub vertices : new.vertices ≡ old.vertices + length l.vertices
  pub segs : new.segs ≡ old.segs + length l.segs
  pub subs : new.subs ≡ old.subs + length l.subs
  pub nodes : new.nodes ≡ old.nodes + length l.nodes
  pub bytes : new.bytes ≡ old.bytes

-- the level that the bytes hold under the map's name
abbrev pub level_of : List ℕ → Tables → Lumps
level_of wad m = lumps_behind wad (marker_at wad (name_text m.name))

-- the bytes are a sound build of each map, and the counts are those of the levels that they read back as
pub record IsBuildCounted (ms : List Tables) (wad : List ℕ) (c : BuildCounts) : Type 0 where
  pub build : IsSoundBuildOfAll ms wad
  pub counts : CountsLevels (map (level_of wad) ms) (length wad) c
