-- What `dump` writes of the levels of a WAD, and what it tells of them beside the output
-- (docs/COMMANDS.md, "The program").
use Rattle.std.specs.Prelude.{◌≡◌, ℕ, All, Bool, not, ◌||◌, is_some, if◌then◌else◌, slice_get, List, [], ◌∷◌, ◌++◌, Option, None, Some, Result, Ok, Err, codes, filter, flat_map, map}
use Rattle.std.specs.List.{list_any}
use Rattle.std.specs.Io.KnownBytes.{Appends, Keeps}
use Rattle.map_dump.specs.MapDumps.{map_dumps_of}
use Rattle.map_dump.specs.Texts.{WritesFront, text_of}
use Rattle.run_edit.specs.declared.error.EditorError.TheVariants.{OutOfMemory, WriterFailed}
use Rattle.run_edit.specs.declared.error.InspectError.TheVariants as inspecting
use Rattle.wad_import.specs.Imported.{changes}
use Rattle.wad_import.specs.Texts.{change_text, import_refusal_text}
use Rattle.wad_import.specs.declared.change.Change.{Change}
use Rattle.wad_import.specs.declared.error.ImportError.{ImportError}
use Rattle.wad_levels.specs.Drawn.{drawn_lists}
use Rattle.wad_levels.specs.Entries.{level_name}
use Rattle.wad_levels.specs.declared.entries.LevelEntries.{LevelEntries}
use Rattle.lump_records.specs.Names.{name_text}
use Rattle.lump_records.specs.declared.records.Name8.{Name8}
use Rattle.map_tables.specs.Tables.{Tables}
use Rattle.map_tables.specs.WellFormed.{WellFormed}
use Rattle.cli_refusals.specs.Statuses.{status_told}
use Rattle.cli_refusals.specs.declared.refusal.Refusal.{Refusal}
use Rattle.cli_refusals.specs.declared.refusal.Refusal.TheVariants as of
use Rattle.cli_dump.specs.Asked.{AreAsked, RefusesAsked}
use Rattle.cli_print.specs.LevelLines.{level_map, map_refusal}
use Rattle.cli_print.specs.ShownNames.{shown}

-- ---- what is dumped

-- what is changed of a level, so that it is a map
abbrev pub level_changes : List ℕ → LevelEntries → List Change
level_changes wad l = changes (drawn_lists wad l)

-- the first change, for which a level is left where its map is to be exact
abbrev pub first_change : Bool → List Change → Option Change
first_change exact cs = if exact then slice_get cs 0 else None

-- the level is left: it is no map, or its map is to be exact and something is changed
abbrev pub is_left_for : Option ImportError → Option Change → Bool
is_left_for refusal first = is_some refusal || is_some first

abbrev pub is_level_left : Bool → List ℕ → LevelEntries → Bool
is_level_left exact wad l =
    is_left_for (map_refusal wad l) (first_change exact (level_changes wad l))

-- the maps whose lines are written: of the levels that aren't left, in their order
abbrev pub dumped_maps : Bool → List ℕ → List LevelEntries → List Tables
dumped_maps exact wad ls = map (level_map wad) (filter (λ l. not (is_level_left exact wad l)) ls)

-- ---- what is told

-- what is said of the level of a name
abbrev pub note : Name8 → List ℕ → List ℕ
note name said = map shown (name_text name) ++ codes ": " ++ said

-- the notes of the changes of a level of the name, one each
abbrev pub change_notes : Name8 → List Change → List (List ℕ)
change_notes name cs = map (λ c. note name (change_text c)) cs

-- the notes of a level with these changes: why it is left, for a refusal or for its first change, or
-- each change
abbrev pub notes_for : Name8 → Option ImportError → Option Change → List Change → List (List ℕ)
notes_for name (Some e) first cs = note name (codes "no map: " ++ import_refusal_text e) ∷ []
notes_for name None (Some c) cs = note name (codes "not exact: " ++ change_text c) ∷ []
notes_for name None None cs = change_notes name cs

abbrev pub level_notes : Bool → List ℕ → LevelEntries → List (List ℕ)
level_notes exact wad l =
    notes_for (level_name wad l) (map_refusal wad l)
    (first_change exact (level_changes wad l)) (level_changes wad l)

-- the notes of levels, of one behind another
abbrev pub notes_of : Bool → List ℕ → List LevelEntries → List (List ℕ)
notes_of exact wad ls = flat_map (level_notes exact wad) ls

-- ---- the request

-- the lines of the maps were written and the notes told, and the status tells whether a level was
-- left
pub record AreDumped (exact : Bool) (wad : List ℕ) (ls : List LevelEntries) (status : ℕ)
    (writer-old writer-new errors-old errors-new : Option (List ℕ)) : Type 0 where
  pub status_is : status ≡ status_told (not (list_any (is_level_left exact wad) ls))
  pub maps : All WellFormed (dumped_maps exact wad ls)
  pub written : Appends writer-old writer-new (text_of (map_dumps_of (dumped_maps exact wad ls)))
  pub told : Appends errors-old errors-new (text_of (notes_of exact wad ls))

-- this was done with the levels of the WAD that are asked for; or, with nothing written or told, they
-- can't be found; or the lines before one that found no memory were written; or a writer failed
abbrev pub IsWadDumped : List ℕ → List (List ℕ) → Bool → Result ℕ Refusal → Option (List ℕ)
    → Option (List ℕ) → Option (List ℕ) → Option (List ℕ) → Type 0
IsWadDumped wad names exact (Ok status) writer-old writer-new errors-old errors-new =
    (ls : List LevelEntries) × AreAsked wad names ls
    × AreDumped exact wad ls status writer-old writer-new errors-old errors-new
IsWadDumped wad names exact (Err (of.Level (inspecting.Level e))) writer-old writer-new
    errors-old errors-new =
    RefusesAsked wad names e × Keeps writer-old writer-new × Keeps errors-old errors-new
IsWadDumped wad names exact (Err (of.Lines OutOfMemory)) writer-old writer-new errors-old
    errors-new =
    (ls : List LevelEntries) × AreAsked wad names ls
    × WritesFront (map_dumps_of (dumped_maps exact wad ls)) writer-old writer-new
IsWadDumped wad names exact (Err (of.Lines WriterFailed)) writer-old writer-new errors-old
    errors-new = Unit {0}
IsWadDumped wad names exact _ writer-old writer-new errors-old errors-new = ⊥
