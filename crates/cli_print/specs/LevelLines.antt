-- What `lint` and `check` write of the levels of a WAD (docs/COMMANDS.md, "The program").
use Rattle.std.specs.Prelude.{◌≡◌, ◌⊎◌, ℕ, Bool, true, MatchResult, Option, None, Some, Result, Ok, Err, List, [], ◌∷◌, ◌++◌, codes, map}
use Rattle.std.specs.Io.KnownBytes.{Keeps}
use Rattle.lump_records.specs.Names.{name_text}
use Rattle.wad_levels.specs.Drawn.{drawn_lists}
use Rattle.wad_levels.specs.Graphics.{GraphicNames}
use Rattle.wad_levels.specs.Entries.{level_name}
use Rattle.wad_levels.specs.declared.entries.LevelEntries.{LevelEntries}
use Rattle.wad_import.specs.Imported.{imported}
use Rattle.wad_import.specs.Refused.{level_refusal}
use Rattle.wad_import.specs.Texts.{import_refusal_text}
use Rattle.wad_import.specs.declared.error.ImportError.{ImportError}
use Rattle.map_tables.specs.Tables.{Tables}
use Rattle.run_edit.specs.Runs.{Unwritten}
use Rattle.run_edit.specs.declared.error.EditorError.{EditorError}
use Rattle.run_edit.specs.declared.error.EditorError.TheVariants.{OutOfMemory}
use Rattle.run_edit.specs.declared.error.InspectError.TheVariants as inspecting
use Rattle.cli_refusals.specs.declared.refusal.Refusal.{Refusal}
use Rattle.cli_refusals.specs.declared.refusal.Refusal.TheVariants as of
use Rattle.cli_print.specs.Checking.{IsCheckedOf}
use Rattle.cli_print.specs.Choosing.{ChosenWords, LintWants}
use Rattle.cli_print.specs.Linting.{AreTold, IsNamedBy, RefusesNaming, WritesRemarks, remarks}
use Rattle.cli_print.specs.Origins.{no_origin}
use Rattle.cli_print.specs.ShownNames.{shown}
use Rattle.cli_print.specs.WantedLevels.{AreWanted, IsWanted, RefusesAllWanted, RefusesWanted}

-- behind the name of a level that is no map: this, and why
abbrev pub no_map_text : ImportError → List ℕ
no_map_text e = codes " no-map " ++ import_refusal_text e

-- why the level of these entries is no map, whatever is changed of it
abbrev pub map_refusal : List ℕ → LevelEntries → Option ImportError
map_refusal wad l = level_refusal wad l (level_name wad l)

-- the map that a level is after the changes
abbrev pub level_map : List ℕ → LevelEntries → Tables
level_map wad l = imported (level_name wad l) (drawn_lists wad l)

-- the refusal of a request that wants the map: there is no memory, or the level is none
abbrev pub IsMapRefusal : List ℕ → LevelEntries → Refusal → Type 0
IsMapRefusal wad l (of.Lines OutOfMemory) = Unit {0}
IsMapRefusal wad l (of.NotAMap e) = map_refusal wad l ≡ Some e
IsMapRefusal wad l _ = ⊥

-- what there is to say of a level: what there is of the map that it is after the changes; or, where
-- it is none whatever is changed of it, a line that says why
abbrev pub AreLevelLines : LintWants → List ℕ → LevelEntries → List (List ℕ) → Type 0
AreLevelLines wants wad l lines =
    ((map_refusal wad l ≡ None)
    × (lines ≡ remarks no_origin wants (level_map wad l)))
    ⊎ ((e : ImportError) × (map_refusal wad l ≡ Some e)
    × (lines ≡ (map shown (name_text (level_name wad l)) ++ no_map_text e) ∷ []))

-- the same of levels, of one behind another
abbrev pub AreLinesOf : LintWants → List ℕ → List LevelEntries → List (List ℕ) → Type 0
AreLinesOf wants wad [] lines = lines ≡ []
AreLinesOf wants wad (l ∷ levels) lines =
    (first : List (List ℕ)) × (rest : List (List ℕ)) × (lines ≡ first ++ rest)
    × AreLevelLines wants wad l first × AreLinesOf wants wad levels rest

-- how a call ended that was to write what there is to say of a level, and to count the lines on
abbrev pub WritesLevel : LintWants → List ℕ → LevelEntries → Result ℕ EditorError → ℕ
    → Option (List ℕ) → Option (List ℕ) → Type 0
WritesLevel wants wad l result before old new =
    (lines : List (List ℕ)) × AreLevelLines wants wad l lines
    × WritesRemarks result before lines old new

-- what there is to say of the levels that are wanted of a WAD was told; or they can't be looked at,
-- and nothing was written
abbrev pub IsWadLintedOf : LintWants → List ℕ → Option (List ℕ) → Result ℕ Refusal
    → Option (List ℕ) → Option (List ℕ) → Type 0
IsWadLintedOf wants wad name (Err (of.Level (inspecting.Level e))) writer-old writer-new =
    RefusesAllWanted wad name e × Keeps writer-old writer-new
IsWadLintedOf wants wad name how writer-old writer-new =
    (levels : List LevelEntries) × (lines : List (List ℕ)) × AreWanted wad name levels
    × AreLinesOf wants wad levels lines × AreTold lines how writer-old writer-new

-- the flats and textures of the WAD that is asked for are not named, and nothing was written; or
-- this was done with the words and the names of some WAD, where one is asked for
abbrev pub IsWadLintedBy : Bool → ChosenWords → List ℕ → Option (List ℕ) → Result ℕ Refusal
    → Option (List ℕ) → Option (List ℕ) → Type 0
IsWadLintedBy asked words wad name how writer-old writer-new =
    ((asked ≡ true) × MatchResult how (λ status. ⊥) RefusesNaming × Keeps writer-old writer-new)
    ⊎ ((names : Option GraphicNames) × IsNamedBy asked names
    × IsWadLintedOf (record { names = names; words = words }) wad name how writer-old writer-new)

-- the findings of the map that the level is were written, of the last level of the name or of the
-- first of all; or, with nothing written, it is no map, or there is no such level; or there was no
-- memory, or the writer failed
abbrev pub IsWadChecked : List ℕ → Option (List ℕ) → Result ℕ Refusal → Option (List ℕ)
    → Option (List ℕ) → Type 0
IsWadChecked wad name (Ok status) writer-old writer-new =
    (l : LevelEntries) × IsWanted wad name l × (map_refusal wad l ≡ None)
    × IsCheckedOf no_origin (level_map wad l) (Ok status) writer-old writer-new
IsWadChecked wad name (Err (of.NotAMap e)) writer-old writer-new =
    (l : LevelEntries) × IsWanted wad name l × (map_refusal wad l ≡ Some e)
    × Keeps writer-old writer-new
IsWadChecked wad name (Err (of.Level (inspecting.Level e))) writer-old writer-new =
    RefusesWanted wad name e × Keeps writer-old writer-new
IsWadChecked wad name (Err (of.Lines e)) writer-old writer-new = Unwritten e writer-old writer-new
IsWadChecked wad name _ writer-old writer-new = ⊥
