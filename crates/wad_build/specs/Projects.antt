-- The PWAD of a project's maps, and why it can't be built.
use Rattle.std.specs.Prelude.{◌≡◌, ℕ, List, [], ◌∷◌, take, slice_get, Option, None, Some, All}
use Rattle.lump_records.specs.declared.records.Name8.{Name8}
use Rattle.map_tables.specs.Tables.{Tables}
use Rattle.wad_levels.specs.Levels.{Lumps}
use Rattle.wad_build.specs.Sound.{CanBeBuilt, IsBuildRefusal, IsBuiltLevel, IsSoundBuild, IsSoundLevel}
use Rattle.wad_build.specs.Views.{built_view}
use Rattle.wad_build.specs.Wad.{Part, all_lumps, level_part, wad_bytes}
use Rattle.wad_build.specs.declared.levels.NamedLevel.{NamedLevel}
use Rattle.wad_build.specs.declared.error.BuildError.{BuildError}
use Rattle.wad_build.specs.declared.error.BuildError.TheVariants.{OutOfMemory}

-- the level is the map's, and has its name
pub record IsLevelOf (m : Tables) (x : NamedLevel) : Type 0 where
  pub named : x.name ≡ m.name
  pub level : IsBuiltLevel m (built_view x.level)

-- the levels are those of the maps, in their order
abbrev pub AreLevelsOf : List Tables → List NamedLevel → Type 0
AreLevelsOf [] [] = Unit {0}
AreLevelsOf [] (x ∷ xs) = ⊥
AreLevelsOf (m ∷ ms) [] = ⊥
AreLevelsOf (m ∷ ms) (x ∷ xs) = IsLevelOf m x × AreLevelsOf ms xs

-- the bytes hold a sound level of each map under its name
abbrev pub IsSoundBuildOfAll : List Tables → List ℕ → Type 0
IsSoundBuildOfAll ms wad = All (λ m. IsSoundBuild m wad) ms

-- the levels are sound levels of the maps, in their order
abbrev pub AreSoundLevels : List Tables → List Lumps → Type 0
AreSoundLevels [] [] = Unit {0}
AreSoundLevels [] (l ∷ ls) = ⊥
AreSoundLevels (m ∷ ms) [] = ⊥
AreSoundLevels (m ∷ ms) (l ∷ ls) = IsSoundLevel m l × AreSoundLevels ms ls

-- the levels are ones that are built of the maps, in their order
abbrev pub AreBuiltLevels : List Tables → List Lumps → Type 0
AreBuiltLevels [] [] = Unit {0}
AreBuiltLevels [] (l ∷ ls) = ⊥
AreBuiltLevels (m ∷ ms) [] = ⊥
AreBuiltLevels (m ∷ ms) (l ∷ ls) = IsBuiltLevel m l × AreBuiltLevels ms ls

-- levels as the parts of one file, each under the name of its map
abbrev pub parts_under : List Tables → List Lumps → List Part
parts_under [] ls = []
parts_under (m ∷ ms) [] = []
parts_under (m ∷ ms) (l ∷ ls) = level_part m.name l ∷ parts_under ms ls

-- the bytes are the PWAD of a level of each map under its name, sound and built of that map, in the
-- maps' order, and of nothing else
pub record HoldsOnly (ms : List Tables) (wad : List ℕ) : Type 0 where
  pub levels : List Lumps
  pub sound : AreSoundLevels ms levels
  pub built : AreBuiltLevels ms levels
  pub bytes : wad ≡ wad_bytes (all_lumps (parts_under ms levels))

-- the refusal is that of the first map by number that can't be built
pub record IsFirstRefusal (ms : List Tables) (e : BuildError) : Type 0 where
  pub number : ℕ
  pub refused : Tables
  pub is_refused : slice_get ms number ≡ Some refused
  pub before : All CanBeBuilt (take number ms)
  pub cause : IsBuildRefusal refused e

-- why the maps can't be built: the first that can't be, or no memory
abbrev pub IsRefusalOfAll : List Tables → BuildError → Type 0
IsRefusalOfAll ms OutOfMemory = Unit {0}
IsRefusalOfAll ms e = IsFirstRefusal ms e

-- the refusal is that of the first map by number that can't be built, and the name is this map's; if memory ran
-- out, no map is named
abbrev pub Blames : List Tables → BuildError → Option Name8 → Type 0
Blames ms OutOfMemory name = name ≡ None
Blames ms e name = (first : IsFirstRefusal ms e) × (name ≡ Some first.refused.name)
