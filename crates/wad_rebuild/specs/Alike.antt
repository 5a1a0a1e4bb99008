-- Two WADs in which the same becomes of each level.
use Rattle.std.specs.Prelude.{◌≡◌, ℕ, ◌<◌, List, [], ◌∷◌, All}
use Rattle.wad_file.specs.Directory.{entry, lump_count}
use Rattle.wad_levels.specs.Drawn.{level_lump}
use Rattle.wad_levels.specs.declared.entries.LevelEntries.{LevelEntries}
use Rattle.wad_rebuild.specs.Parts.{HasLumps}
use Rattle.wad_rebuild.specs.Rebuilt.{AreRebuilt}
use Rattle.wad_rebuild.specs.declared.levels.Fate.{Fate}
use Rattle.wad_rebuild.specs.declared.levels.Fate.TheVariants.{NotAsked, Made, Left}
use Rattle.wad_rebuild.specs.declared.levels.RebuiltLevel.{RebuiltLevel}

-- their directories have the same names
pub record HasSameNames (wad other : List ℕ) : Type 0 where
  pub count : lump_count other ≡ lump_count wad
  pub names : (k : ℕ) → k < lump_count wad → (entry other k).name ≡ (entry wad k).name

-- the numbers of the lumps of which a level is built anew: what was drawn, and REJECT
abbrev pub drawn_numbers : List ℕ
drawn_numbers = 0 ∷ 1 ∷ 2 ∷ 3 ∷ 7 ∷ 8 ∷ []

-- these lumps of a level have the same bytes
abbrev pub HasSameDrawn : List ℕ → List ℕ → LevelEntries → Type 0
HasSameDrawn wad other l = All (λ n. level_lump other l n ≡ level_lump wad l n) drawn_numbers

-- so have those of a level of which this became, if it was asked for
abbrev pub HasSameLevel : List ℕ → List ℕ → LevelEntries → Fate → Type 0
HasSameLevel wad other l NotAsked = Unit {0}
HasSameLevel wad other l (Made m) = HasSameDrawn wad other l
HasSameLevel wad other l (Left c) = HasSameDrawn wad other l

-- the two WADs have the same names, and the same lumps of the levels that were asked for
pub record HaveSameLevels (wad other : List ℕ) (levels : List RebuiltLevel) : Type 0 where
  pub names : HasSameNames wad other
  pub each : All (λ l. HasSameLevel wad other l.entries l.fate) levels

-- what becomes of each level of a WAD rests on the names in its directory, and on what was drawn of
-- the levels that are asked for: it is the same in another WAD that has the same ones
abbrev pub LevelsRestOnTheirLumps : Type 0
LevelsRestOnTheirLumps =
    (wad other : List ℕ) (names : List (List ℕ)) (levels : List RebuiltLevel) → HasLumps wad
    → HasLumps other → HaveSameLevels wad other levels → AreRebuilt wad names levels
    → AreRebuilt other names levels
