-- A WAD whose levels are built anew of their own lines, its other lumps as they were (docs/FORMAT.md, "Levels of other WADs").
use Rattle.std.specs.Prelude.{◌≡◌, ◌≢◌, ◌⊎◌, ℕ, zero, suc, ◌+◌, ◌*◌, ◌/◌, ◌<◌, ◌≤◌, max, min, Bool, true, false, not, nat_lt, List, [], ◌∷◌, ◌++◌, length, map, filter, take, All, Option, Some, None}
use Rattle.std.specs.Option.{option_map, option_or}
use Rattle.std.specs.List.{list_all, list_any, range_with_len}
use Rattle.wad_levels.specs.Called.{is_level_asked}
use Rattle.wad_levels.specs.Drawn.{drawn_lists, level_lump}
use Rattle.wad_levels.specs.Entries.{AreLevels, is_level, level_name}
use Rattle.wad_file.specs.Directory.{are_inside, entry, entry_text, first_failed, lump_count, wad_refusal}
use Rattle.wad_levels.specs.Levels.{lump_names}
use Rattle.wad_file.specs.Fields.{same_bytes}
use Rattle.wad_file.specs.declared.error.WadError.{WadError}
use Rattle.wad_file.specs.declared.error.WadError.TheVariants as bytes
use Rattle.wad_levels.specs.declared.entries.LevelEntries.{LevelEntries}
use Rattle.wad_build.specs.Wad.{with_names}
use Rattle.wad_file.specs.Lumps.{IsWadOf, Lump, lump_at, lumps_between, wad_size}
use Rattle.wad_rebuild.specs.Kept.{kept_faults}
use Rattle.wad_rebuild.specs.Made.{reject_of}
use Rattle.wad_rebuild.specs.Remade.{IsLeftFor, IsRemade}
use Rattle.wad_rebuild.specs.declared.cause.Cause.{Cause}
use Rattle.wad_rebuild.specs.declared.error.RebuildError.{RebuildError}
use Rattle.wad_rebuild.specs.declared.error.RebuildError.TheVariants.{TooLong, NotAWad, DirectoryOutside, NoSuchLevel, LumpOutside, OutOfMemory}
use Rattle.wad_rebuild.specs.declared.kept.KeptFault.{KeptFault}
use Rattle.wad_rebuild.specs.declared.levels.Fate.{Fate}
use Rattle.wad_rebuild.specs.declared.levels.Fate.TheVariants.{NotAsked, Made, Left}
use Rattle.wad_rebuild.specs.declared.levels.RebuiltLevel.{RebuiltLevel}
use Rattle.wad_rebuild.specs.declared.made.MadeLumps.{MadeLumps}
use Rattle.wad_rebuild.specs.declared.whole.RebuiltWad.{RebuiltWad}

-- ---- what becomes of its levels

-- what became of a level is what it had to be: it isn't asked for, or its lumps are built anew of
-- its own lines, or it is left for its cause
abbrev pub IsFate : List ℕ → Bool → LevelEntries → Fate → Type 0
IsFate wad asked l NotAsked = asked ≡ false
IsFate wad asked l (Made m) = (asked ≡ true) × IsRemade wad l m
IsFate wad asked l (Left c) = (asked ≡ true) × IsLeftFor wad l c × (c ≢ Cause.OutOfMemory)

-- a level, one of these, is told under its name with what became of it: the names ask for the last
-- one of each, and where there are none for all
pub record IsRebuilt (wad : List ℕ) (levels : List LevelEntries) (names : List (List ℕ))
    (l : RebuiltLevel) : Type 0 where
  pub name_is : l.name ≡ level_name wad l.entries
  pub fate_is : IsFate wad (is_level_asked wad levels names l.entries) l.entries l.fate

-- they are all levels of the WAD in the order of its directory, each with what became of it
pub record AreRebuilt (wad : List ℕ) (names : List (List ℕ))
    (levels : List RebuiltLevel) : Type 0 where
  pub levels_are : AreLevels wad (map (λ l. l.entries) levels)
  pub each : All (IsRebuilt wad (map (λ l. l.entries) levels) names) levels

-- the faults that stay in a level: those of its lines that prevent no build, if it is built anew
abbrev pub kept_in : List ℕ → LevelEntries → Fate → List KeptFault
kept_in wad l NotAsked = []
kept_in wad l (Made m) = kept_faults (drawn_lists wad l).lines
kept_in wad l (Left c) = []

-- ---- the lumps of the new WAD

-- the bytes of the ten lumps of a level that is built anew: what was drawn, as it was, and what
-- was made
abbrev pub ten_bytes : List ℕ → LevelEntries → MadeLumps → List (List ℕ)
ten_bytes wad l m =
    level_lump wad l 0 ∷ level_lump wad l 1 ∷ level_lump wad l 2 ∷ m.vertices.items
    ∷ m.segs.items ∷ m.subs.items ∷ m.nodes.items ∷ level_lump wad l 7
    ∷ reject_of (level_lump wad l 8) m
    ∷ m.blockmap.items ∷ []

-- these lumps
abbrev pub ten_lumps : List ℕ → LevelEntries → MadeLumps → List Lump
ten_lumps wad l m = with_names lump_names (ten_bytes wad l m)

-- its lumps: the marker, as it was, and these
abbrev pub made_lumps : List ℕ → LevelEntries → MadeLumps → List Lump
made_lumps wad l m = lump_at wad l.marker ∷ ten_lumps wad l m

-- the lumps that stand in place of a level's: of one that isn't built anew they stay
abbrev pub lumps_after : List ℕ → LevelEntries → Fate → List Lump
lumps_after wad l (Made m) = made_lumps wad l m
lumps_after wad l NotAsked = lumps_between wad l.marker l.gl_end
lumps_after wad l (Left c) = lumps_between wad l.marker l.gl_end

-- the lumps from the k-th entry on, those of each level, with another builder's behind them, after
-- what became of it
abbrev pub lumps_from : List ℕ → ℕ → List RebuiltLevel → List Lump
lumps_from wad k [] = lumps_between wad k (lump_count wad)
lumps_from wad k (l ∷ levels) =
    lumps_between wad k l.entries.marker
    ++ (lumps_after wad l.entries l.fate ++ lumps_from wad l.entries.gl_end levels)

-- the lumps of a WAD after what became of its levels
abbrev pub rebuilt_lumps : List ℕ → List RebuiltLevel → List Lump
rebuilt_lumps wad levels = lumps_from wad 0 levels

-- ---- what refuses the whole

-- how many bytes the first n entries give their lumps
abbrev pub sizes_below : List ℕ → ℕ → ℕ
sizes_below wad zero = 0
sizes_below wad (suc n) = sizes_below wad n + (entry wad n).size

-- a quarter of what the lumps have together is more than the file has
abbrev pub is_crowded : List ℕ → Bool
is_crowded wad = nat_lt (length wad) (sizes_below wad (lump_count wad) / 4)

-- a level has the name
abbrev pub has_level : List ℕ → List ℕ → Bool
has_level wad name =
    list_any (λ k. same_bytes (entry_text wad k) name)
    (filter (is_level wad) (range_with_len 0 (lump_count wad)))

-- the first refusal that holds of a WAD before a level is looked at
abbrev pub lumps_refusal : List ℕ → List (List ℕ) → Option RebuildError
lumps_refusal wad names =
    first_failed
    ((are_inside wad 0 (lump_count wad), LumpOutside)
    ∷ (not (is_crowded wad), TooLong)
    ∷ (list_all (has_level wad) names, NoSuchLevel)
    ∷ []
    )

-- the refusal of bytes that are no WAD
abbrev pub not_rebuilt : WadError → RebuildError
not_rebuilt bytes.NotAWad = NotAWad
not_rebuilt bytes.DirectoryOutside = DirectoryOutside

-- that of bytes, or else that of the WAD
abbrev pub whole_refusal : List ℕ → List (List ℕ) → Option RebuildError
whole_refusal wad names =
    option_or (option_map not_rebuilt (wad_refusal wad)) (lumps_refusal wad names)

-- how many bytes a WAD of so many may have with its levels built anew: sixteen times as many, but
-- always 64 MB, and never four gigabytes
abbrev pub size_limit : ℕ → ℕ
size_limit len = min (max (16 * len) 67108864) 4294967295

abbrev pub greatest_size : List ℕ → ℕ
greatest_size wad = size_limit (length wad)

-- nothing refuses the WAD, but with its levels built anew it would have more bytes than it may have
pub record Outgrows (wad : List ℕ) (names : List (List ℕ)) : Type 0 where
  pub accepted : whole_refusal wad names ≡ None
  pub levels : List RebuiltLevel
  pub are : AreRebuilt wad names levels
  pub long : greatest_size wad < wad_size (rebuilt_lumps wad levels)

-- that refusal, or the new WAD would be too long, or lack of memory
abbrev pub RefusesRebuild : List ℕ → List (List ℕ) → RebuildError → Type 0
RefusesRebuild wad names OutOfMemory = Unit {0}
RefusesRebuild wad names TooLong = (whole_refusal wad names ≡ Some TooLong) ⊎ Outgrows wad names
RefusesRebuild wad names e = whole_refusal wad names ≡ Some e

-- this became of each level of a WAD, and these are its bytes with the levels built anew
pub record IsRebuiltAs (wad : List ℕ) (names : List (List ℕ)) (levels : List RebuiltLevel)
    (bytes : List ℕ) : Type 0 where
  pub accepted : whole_refusal wad names ≡ None
  pub levels_are : AreRebuilt wad names levels
  pub bytes_are : IsWadOf (take 4 wad) (rebuilt_lumps wad levels) bytes
  pub fits : wad_size (rebuilt_lumps wad levels) ≤ greatest_size wad

-- the WAD with its levels built anew, and what became of each
abbrev pub IsRebuiltWad : List ℕ → List (List ℕ) → RebuiltWad → Type 0
IsRebuiltWad wad names r = IsRebuiltAs wad names r.levels.items r.bytes.items
