-- How the steps end by which levels are dumped.
use Rattle.std.specs.Prelude.{◌≡◌, ℕ, Bool, false, not, if◌then◌else◌, List, [], Option, Result, Ok, Err}
use Rattle.std.specs.List.{list_any}
use Rattle.std.specs.Io.KnownBytes.{Appends}
use Rattle.map_dump.specs.Dump.{map_dump_of}
use Rattle.map_dump.specs.MapDumps.{map_dumps_of}
use Rattle.map_dump.specs.Texts.{WritesFront, text_of}
use Rattle.run_edit.specs.declared.error.EditorError.{EditorError}
use Rattle.run_edit.specs.declared.error.EditorError.TheVariants.{OutOfMemory, InputTooLong, ReaderFailed, WriterFailed}
use Rattle.wad_import.specs.declared.change.Change.{Change}
use Rattle.wad_import.specs.declared.error.ImportError.{ImportError}
use Rattle.wad_levels.specs.Entries.{level_name}
use Rattle.wad_levels.specs.declared.entries.LevelEntries.{LevelEntries}
use Rattle.lump_records.specs.declared.records.Name8.{Name8}
use Rattle.map_tables.specs.Tables.{Tables}
use Rattle.map_tables.specs.WellFormed.{WellFormed}
use Rattle.cli_dump.specs.LevelDumps.{dumped_maps, first_change, is_level_left, is_left_for, level_changes, notes_for, notes_of}
use Rattle.cli_print.specs.LevelLines.{level_map, map_refusal}

-- a call failed that was to write these lines: those before one that found no memory were written, or
-- the writer failed
abbrev pub LosesLines : EditorError → List (List ℕ) → Option (List ℕ) → Option (List ℕ) → Type 0
LosesLines OutOfMemory lines old new = WritesFront lines old new
LosesLines WriterFailed lines old new = Unit {0}
LosesLines InputTooLong lines old new = ⊥
LosesLines ReaderFailed lines old new = ⊥

-- the lines were written, or the call failed
abbrev pub WritesOrLoses : {U : Type 0} → Result U EditorError → List (List ℕ) → Option (List ℕ)
    → Option (List ℕ) → Type 0
WritesOrLoses (Ok u) lines old new = Appends old new (text_of lines)
WritesOrLoses (Err e) lines old new = LosesLines e lines old new

-- the lines of a level that is this map, where it isn't left
abbrev pub lines_for : Option ImportError → Option Change → Tables → List (List ℕ)
lines_for refusal first m = if is_left_for refusal first then [] else map_dump_of m

-- how a call ended that was to dump a level of a name which is this map after these changes, or is
-- left for a refusal or its first change: whether it was dumped
abbrev pub DumpsFor : Name8 → Option ImportError → Option Change → List Change → Tables
    → Result Bool EditorError → Option (List ℕ) → Option (List ℕ) → Option (List ℕ)
    → Option (List ℕ) → Type 0
DumpsFor name refusal first cs m (Ok dumped) writer-old writer-new errors-old errors-new =
    (dumped ≡ not (is_left_for refusal first))
    × Appends writer-old writer-new (text_of (lines_for refusal first m))
    × Appends errors-old errors-new (text_of (notes_for name refusal first cs))
DumpsFor name refusal first cs m (Err e) writer-old writer-new errors-old errors-new =
    LosesLines e (lines_for refusal first m) writer-old writer-new

abbrev pub DumpsLevel : Bool → List ℕ → LevelEntries → Result Bool EditorError
    → Option (List ℕ) → Option (List ℕ) → Option (List ℕ) → Option (List ℕ) → Type 0
DumpsLevel exact wad l =
    DumpsFor (level_name wad l) (map_refusal wad l)
    (first_change exact (level_changes wad l)) (level_changes wad l) (level_map wad l)

-- the level is left, or is a well-formed map
abbrev pub KeepsMap : Bool → List ℕ → LevelEntries → Type 0
KeepsMap exact wad l = is_level_left exact wad l ≡ false → WellFormed (level_map wad l)

-- the same of levels: whether all were dumped
abbrev pub DumpsLevels : Bool → List ℕ → List LevelEntries → Result Bool EditorError
    → Option (List ℕ) → Option (List ℕ) → Option (List ℕ) → Option (List ℕ) → Type 0
DumpsLevels exact wad ls (Ok all) writer-old writer-new errors-old errors-new =
    (all ≡ not (list_any (is_level_left exact wad) ls))
    × Appends writer-old writer-new (text_of (map_dumps_of (dumped_maps exact wad ls)))
    × Appends errors-old errors-new (text_of (notes_of exact wad ls))
DumpsLevels exact wad ls (Err e) writer-old writer-new errors-old errors-new =
    LosesLines e (map_dumps_of (dumped_maps exact wad ls)) writer-old writer-new
