-- What `lint` writes of maps (docs/COMMANDS.md, "The program").
use Rattle.std.specs.Prelude.{◌≡◌, ◌⊎◌, ℕ, ◌+◌, Bool, false, true, MatchResult, Option, None, Some, Result, Ok, Err, List, [], ◌∷◌, ◌++◌, find, length, map, flat_map}
use Rattle.std.specs.Io.KnownBytes.{Appends, Keeps}
use Rattle.lump_records.specs.Names.{name_text}
use Rattle.map_tables.specs.Projects.{MapsView, project_of}
use Rattle.map_tables.specs.Tables.{Tables}
use Rattle.map_tables.specs.declared.kind.Kind.{Kind}
use Rattle.map_checks.specs.Findings.{findings}
use Rattle.wad_levels.specs.Graphics.{GraphicNames, RefusesGraphics, graphics, graphics_refusal, graphics_view}
use Rattle.wad_levels.specs.declared.graphics.Graphics.{Graphics}
use Rattle.map_lint.specs.Graphics.{graphic_warnings}
use Rattle.map_lint.specs.Rules.{warnings}
use Rattle.map_lint.specs.declared.warning.Warning.{Warning}
use Rattle.map_dump.specs.Texts.{WritesFront, text_of}
use Rattle.cli_refusals.specs.Refusals.{EndsReading}
use Rattle.cli_refusals.specs.Statuses.{status_after}
use Rattle.cli_print.specs.Choosing.{ChosenWords, LintWants, chosen_findings, chosen_warnings}
use Rattle.cli_print.specs.Origins.{finding_told, warning_told}
use Rattle.cli_print.specs.Called.{is_called}
use Rattle.cli_print.specs.Reading.{ReadsAll}
use Rattle.run_edit.specs.Texts.{total_text}
use Rattle.run_edit.specs.declared.error.EditorError.{EditorError}
use Rattle.run_edit.specs.declared.error.EditorError.TheVariants.{OutOfMemory, WriterFailed}
use Rattle.run_edit.specs.declared.error.InspectError.TheVariants as inspecting
use Rattle.cli_refusals.specs.declared.refusal.Refusal.{Refusal}
use Rattle.cli_refusals.specs.declared.refusal.Refusal.TheVariants as of

-- a text behind a name, with a space between
abbrev pub behind : List ℕ → List ℕ → List ℕ
behind name text = name ++ 32 ∷ text

-- the warnings of a map's flats and textures, where a WAD's names are given
abbrev pub warned_by : Option GraphicNames → Tables → List Warning
warned_by None m = []
warned_by (Some names) m = graphic_warnings names.flats names.textures m

-- of a map's warnings, then those of its flats and textures, what is asked for
abbrev pub wanted_warnings : LintWants → Tables → List Warning
wanted_warnings wants m = chosen_warnings wants.words (warnings m ++ warned_by wants.names m)

-- what there is to say of a map: its findings, then its warnings, then those of its flats and
-- textures, of all these what is asked for, each behind the map's name and with the origins of its
-- items
abbrev pub remarks : (List ℕ → Kind → ℕ → List ℕ) → LintWants → Tables → List (List ℕ)
remarks origin wants m =
    map (behind (name_text m.name))
    (map (finding_told origin (name_text m.name)) (chosen_findings wants.words (findings m))
    ++ map (warning_told origin (name_text m.name)) (wanted_warnings wants m))

-- what there is to say of maps, one after another
abbrev pub lint_of : (List ℕ → Kind → ℕ → List ℕ) → LintWants → List Tables → List (List ℕ)
lint_of origin wants ms = flat_map (remarks origin wants) ms

-- these lines and their number
abbrev pub lint_text : List (List ℕ) → List ℕ
lint_text lines = text_of lines ++ total_text (length lines)

-- how a call ended that was to write these lines and to count them on: all were written, or those
-- before one that found no memory; where the writer failed nothing is said of what it holds
abbrev pub WritesRemarks : Result ℕ EditorError → ℕ → List (List ℕ) → Option (List ℕ)
    → Option (List ℕ)
    → Type 0
WritesRemarks (Ok n) before lines old new =
    (n ≡ before + length lines) × Appends old new (text_of lines)
WritesRemarks (Err OutOfMemory) before lines old new = WritesFront lines old new
WritesRemarks (Err WriterFailed) before lines old new = Unit {0}
WritesRemarks (Err _) before lines old new = ⊥

-- these lines were written, each with LF behind it, and how many lines these are, and the status
-- tells whether there are any; or those before one that found no memory; or the writer failed
abbrev pub AreTold : List (List ℕ) → Result ℕ Refusal → Option (List ℕ) → Option (List ℕ) → Type 0
AreTold lines (Ok status) writer-old writer-new =
    (status ≡ status_after (length lines)) × Appends writer-old writer-new (lint_text lines)
AreTold lines (Err (of.Lines OutOfMemory)) writer-old writer-new =
    WritesFront lines writer-old writer-new
AreTold lines (Err (of.Lines WriterFailed)) writer-old writer-new = Unit {0}
AreTold lines _ writer-old writer-new = ⊥

-- what there is to say of these maps was told
abbrev pub IsLintedOf : (List ℕ → Kind → ℕ → List ℕ) → LintWants → MapsView → Result ℕ Refusal
    → Option (List ℕ) → Option (List ℕ) → Type 0
IsLintedOf origin wants maps how writer-old writer-new =
    AreTold (lint_of origin wants (project_of maps).maps) how writer-old writer-new

-- the same of the map of the name alone, or the project has none; or of all where none is named
abbrev pub IsLintedIn : (List ℕ → Kind → ℕ → List ℕ) → Option (List ℕ) → LintWants → MapsView
    → Result ℕ Refusal → Option (List ℕ) → Option (List ℕ) → Type 0
IsLintedIn origin None wants maps how writer-old writer-new =
    IsLintedOf origin wants maps how writer-old writer-new
IsLintedIn origin (Some name) wants maps how writer-old writer-new =
    ((how ≡ Err of.NoSuchMap) × (find (is_called name) (project_of maps).maps ≡ None)
    × Keeps writer-old writer-new)
    ⊎ ((m : Tables) × (find (is_called name) (project_of maps).maps ≡ Some m)
    × AreTold (remarks origin wants m) how writer-old writer-new)

-- these are the names of the flats and textures of some WAD, where one is asked for, and else none
abbrev pub IsNamedBy : Bool → Option GraphicNames → Type 0
IsNamedBy asked None = asked ≡ false
IsNamedBy asked (Some names) =
    (asked ≡ true) × ((wad : List ℕ) × (graphics_refusal wad ≡ None) × (names ≡ graphics wad))

-- why they are not: the WAD was not read to its end, or what was read of it is refused
abbrev pub RefusesNaming : Refusal → Type 0
RefusesNaming (of.Lines e) = EndsReading e
RefusesNaming (of.Level (inspecting.Level e)) = (wad : List ℕ) × RefusesGraphics wad e
RefusesNaming _ = ⊥

-- the flats and textures of the WAD that is asked for are not named, and nothing was written; or
-- this was done with the maps, the words, and the names of some WAD, where one is asked for
abbrev pub IsLintedBy : (List ℕ → Kind → ℕ → List ℕ) → Bool → ChosenWords → Option (List ℕ)
    → MapsView → Result ℕ Refusal → Option (List ℕ) → Option (List ℕ) → Type 0
IsLintedBy origin asked words name maps how writer-old writer-new =
    ((asked ≡ true) × MatchResult how (λ status. ⊥) RefusesNaming × Keeps writer-old writer-new)
    ⊎ ((names : Option GraphicNames) × IsNamedBy asked names
    × IsLintedIn origin name (record { names = names; words = words }) maps how
    writer-old writer-new)

-- the flats and textures of the WAD that is all that the reader gave are named; or it was not read
-- to its end, or is refused
abbrev pub IsNamedOf : Result Graphics Refusal → Option (List ℕ) → Option (List ℕ) → Type 0
IsNamedOf (Ok g) reader-old reader-new =
    (wad : List ℕ) × ReadsAll reader-old reader-new wad
    × (graphics_refusal wad ≡ None) × (graphics_view g ≡ graphics wad)
IsNamedOf (Err (of.Lines e)) reader-old reader-new = EndsReading e
IsNamedOf (Err (of.Level (inspecting.Level e))) reader-old reader-new =
    (wad : List ℕ) × ReadsAll reader-old reader-new wad × RefusesGraphics wad e
IsNamedOf _ reader-old reader-new = ⊥
