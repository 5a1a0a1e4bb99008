-- What is found of a WAD before its levels are built anew, and why it isn't written after.
use Rattle.std.specs.Prelude.{◌≡◌, ℕ, ◌<◌, ◌≤◌, List, All, Option, Some, None}
use Rattle.wad_levels.specs.Entries.{AreLevels, IsLevelAt}
use Rattle.wad_levels.specs.declared.entries.LevelEntries.{LevelEntries}
use Rattle.wad_file.specs.Lumps.{IsWadOf, Lump, wad_size}
use Rattle.wad_file.specs.Placed.{Placed, placed_size}
use Rattle.wad_rebuild.specs.Parts.{HasLumps}
use Rattle.wad_rebuild.specs.Held.{placed_lumps}
use Rattle.wad_rebuild.specs.Rebuilt.{AreRebuilt, lumps_refusal, size_limit, whole_refusal}
use Rattle.wad_rebuild.specs.declared.error.RebuildError.{RebuildError}
use Rattle.wad_rebuild.specs.declared.error.RebuildError.TheVariants.{TooLong, NotAWad, DirectoryOutside, NoSuchLevel, LumpOutside, OutOfMemory}
use Rattle.wad_rebuild.specs.declared.levels.RebuiltLevel.{RebuiltLevel}

-- nothing refuses the WAD, and these are its levels
pub record IsAcceptedWad (wad : List ℕ) (names : List (List ℕ))
    (levels : List LevelEntries) : Type 0 where
  pub accepted : lumps_refusal wad names ≡ None
  pub lumps : HasLumps wad
  pub levels_are : AreLevels wad levels

-- what refuses it, or lack of memory
abbrev pub RefusesFinding : List ℕ → List (List ℕ) → RebuildError → Type 0
RefusesFinding wad names OutOfMemory = Unit {0}
RefusesFinding wad names e = lumps_refusal wad names ≡ Some e

-- the WAD takes more bytes than it may have, or there is no memory
abbrev pub RefusesBytes : ℕ → ℕ → RebuildError → Type 0
RefusesBytes most size TooLong = most < size
RefusesBytes most size OutOfMemory = Unit {0}
RefusesBytes most size NotAWad = ⊥
RefusesBytes most size DirectoryOutside = ⊥
RefusesBytes most size NoSuchLevel = ⊥
RefusesBytes most size LumpOutside = ⊥

-- the bytes are a WAD of a kind with these lumps, and at most so many
pub record IsShortWad (kind : List ℕ) (most : ℕ) (lumps : List Lump) (wad : List ℕ) : Type 0 where
  pub wad_is : IsWadOf kind lumps wad
  pub fits : wad_size lumps ≤ most

-- each lump of the WAD stands in the file, and the levels are some of its levels
pub record AreReady (wad : List ℕ) (levels : List RebuiltLevel) : Type 0 where
  pub lumps : HasLumps wad
  pub each : All (λ l. IsLevelAt wad l.entries) levels

-- nothing refuses the WAD before a level is looked at, and these are its levels with what became of
-- each
pub record IsAcceptedWith (wad : List ℕ) (names : List (List ℕ))
    (levels : List RebuiltLevel) : Type 0 where
  pub accepted : whole_refusal wad names ≡ None
  pub levels_are : AreRebuilt wad names levels
  pub ready : AreReady wad levels

-- these are the lumps of the WAD after what became of its levels, as they are written, and with them
-- it has at most the bytes that it may have
pub record IsListOf (wad : List ℕ) (held : Option (List ℕ)) (len : ℕ) (levels : List RebuiltLevel)
    (list : List Placed) : Type 0 where
  pub lumps_are : list ≡ placed_lumps wad held levels
  pub fits : placed_size list ≤ size_limit len
  pub short : placed_size list < 4294967296
