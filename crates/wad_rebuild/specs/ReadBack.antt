-- What a level that is built anew reads back as, and what it is where it could be a map's.
use Rattle.std.specs.Prelude.{◌≡◌, ℕ, ◌<◌, ◌≤◌, false, List, [], ◌∷◌, length, Some, slice_get, All}
use Rattle.lump_records.specs.Names.{name_text}
use Rattle.map_tables.specs.Tables.{Tables}
use Rattle.map_tables.specs.WellFormed.{WellFormed}
use Rattle.wad_levels.specs.Drawn.{DrawnLists, drawn_lists}
use Rattle.wad_levels.specs.Entries.{is_behavior}
use Rattle.wad_file.specs.Lumps.{lump_at}
use Rattle.wad_levels.specs.Levels.{IsLevel, Lumps, marker}
use Rattle.wad_levels.specs.declared.entries.LevelEntries.{LevelEntries}
use Rattle.wad_build.specs.Projects.{HoldsOnly}
use Rattle.wad_build.specs.Sound.{IsBuiltLevel, no_rejects}
use Rattle.wad_build.specs.Wad.{is_lump_name, level_part, wad_bytes}
use Rattle.wad_rebuild.specs.Rebuilt.{IsRebuiltWad, made_lumps, ten_bytes}
use Rattle.wad_rebuild.specs.Remade.{IsMadeAnew, IsRemade, reject_over, remade_level, used_count, used_front}
use Rattle.wad_rebuild.specs.declared.levels.Fate.TheVariants.{Made}
use Rattle.wad_rebuild.specs.declared.levels.RebuiltLevel.{RebuiltLevel}
use Rattle.wad_rebuild.specs.declared.made.MadeLumps.{MadeLumps}
use Rattle.wad_rebuild.specs.declared.whole.RebuiltWad.{RebuiltWad}

-- the level's name finds it: it is that of none of a level's lumps, the last entry of the WAD with it
-- is the level's marker, and no BEHAVIOR stands behind the level
pub record IsFindable (wad : List ℕ) (l : RebuiltLevel) : Type 0 where
  pub free : is_lump_name (name_text l.name) ≡ false
  pub last : marker wad (name_text l.name) ≡ Some l.entries.marker
  pub doom : is_behavior wad l.entries.gl_end ≡ false

-- such a level of a WAD that is built anew is read back under its name as what was drawn of it and
-- what was made
abbrev pub RebuiltLevelsReadBack : Type 0
RebuiltLevelsReadBack =
    (wad : List ℕ) (names : List (List ℕ)) (r : RebuiltWad) (n : ℕ) (l : RebuiltLevel)
    (m : MadeLumps) → IsRebuiltWad wad names r → slice_get r.levels.items n ≡ Some l
    → l.fate ≡ Made m → IsFindable wad l
    → IsLevel r.bytes.items (name_text l.name) (remade_level (drawn_lists wad l.entries) m)

-- what was drawn of a level is a map: its vertices up to the last that a line uses are the map's, and no
-- REJECT stays that marks a sector as out of sight
pub record IsDrawnAs (m : Tables) (d : DrawnLists) : Type 0 where
  pub well_formed : WellFormed m
  pub things : d.things ≡ m.things
  pub lines : d.lines ≡ m.lines
  pub sides : d.sides ≡ m.sides
  pub vertices : used_front d ≡ m.vertices
  pub sectors : d.sectors ≡ m.sectors
  pub in_sight : reject_over (length m.sectors) d.reject ≡ no_rejects (length m.sectors)

-- a level that is a map as drawn becomes one that a build makes of the map
abbrev pub RebuiltMapsAreBuilt : Type 0
RebuiltMapsAreBuilt =
    (m : Tables) (d : DrawnLists) (made : MadeLumps) → IsDrawnAs m d → IsMadeAnew d made
    → IsBuiltLevel m (remade_level d made)

-- a level of a WAD is a map as drawn
pub record IsLevelOfMap (m : Tables) (wad : List ℕ) (l : LevelEntries) : Type 0 where
  pub bytes : All (λ b. b < 256) wad
  pub drawn : IsDrawnAs m (drawn_lists wad l)

-- the ten lumps of a level that is a map as drawn become those of every level that a build makes of the
-- map, byte by byte
abbrev pub RebuiltLumpsAreTheBuilds : Type 0
RebuiltLumpsAreTheBuilds =
    (m : Tables) (wad : List ℕ) (l : LevelEntries) (made : MadeLumps) (level : Lumps)
    → IsLevelOfMap m wad l → IsRemade wad l made → IsBuiltLevel m level
    → ten_bytes wad l made ≡ (level_part m.name level).lumps

-- if the marker of such a level is empty and has the map's name, the PWAD that a build makes of the map
-- has the eleven lumps that the level gets, and no more
abbrev pub BuildsAreTheRebuiltLumps : Type 0
BuildsAreTheRebuiltLumps =
    (m : Tables) (wad : List ℕ) (l : LevelEntries) (made : MadeLumps) (built : List ℕ)
    → IsLevelOfMap m wad l → lump_at wad l.marker ≡ record { name = m.name; bytes = [] }
    → IsRemade wad l made → HoldsOnly (m ∷ []) built → built ≡ wad_bytes (made_lumps wad l made)

-- what was drawn of a level, with its REJECT, is what these lists hold
pub record HoldsDrawn (level : Lumps) (d : DrawnLists) : Type 0 where
  pub things : d.things ≡ level.things
  pub lines : d.lines ≡ level.lines
  pub sides : d.sides ≡ level.sides
  pub vertices : d.vertices ≡ level.vertices
  pub sectors : d.sectors ≡ level.sectors
  pub reject : d.reject ≡ level.reject

-- a level that a build makes of a map is the map as drawn, if a line uses the map's last vertex
abbrev pub BuildsAreDrawnAs : Type 0
BuildsAreDrawnAs =
    (m : Tables) (level : Lumps) (d : DrawnLists) → IsBuiltLevel m level → HoldsDrawn level d
    → length m.vertices ≤ used_count m.lines → IsDrawnAs m d
