-- What `check` writes of a map (docs/COMMANDS.md, "The program").
use Rattle.std.specs.Prelude.{◌≡◌, ◌⊎◌, ℕ, Option, None, Some, Result, Ok, Err, List, ◌++◌, find, flat_map, length}
use Rattle.std.specs.Io.KnownBytes.{Appends, Keeps}
use Rattle.lump_records.specs.Names.{name_text}
use Rattle.map_tables.specs.Projects.{MapsView, project_of}
use Rattle.map_tables.specs.Tables.{Tables}
use Rattle.map_tables.specs.declared.kind.Kind.{Kind}
use Rattle.map_checks.specs.Findings.{findings}
use Rattle.run_edit.specs.Runs.{Unwritten}
use Rattle.run_edit.specs.Texts.{total_text}
use Rattle.map_dump.specs.Texts.{with_lf}
use Rattle.cli_print.specs.Origins.{finding_told}
use Rattle.cli_print.specs.Called.{is_called}
use Rattle.cli_refusals.specs.Statuses.{status_after}
use Rattle.cli_refusals.specs.declared.refusal.Refusal.{Refusal}
use Rattle.cli_refusals.specs.declared.refusal.Refusal.TheVariants as of

-- a line for each finding of the map, with the origins of its items, and the number of findings
abbrev pub checked_text : (List ℕ → Kind → ℕ → List ℕ) → Tables → List ℕ
checked_text origin m =
    flat_map (λ f. with_lf (finding_told origin (name_text m.name) f)) (findings m)
    ++ total_text (length (findings m))

-- the findings of this map were written, and the status tells whether there are any; or it was
-- refused
abbrev pub IsCheckedOf : (List ℕ → Kind → ℕ → List ℕ) → Tables → Result ℕ Refusal → Option (List ℕ)
    → Option (List ℕ) → Type 0
IsCheckedOf origin m (Ok status) writer-old writer-new =
    (status ≡ status_after (length (findings m)))
    × Appends writer-old writer-new (checked_text origin m)
IsCheckedOf origin m (Err (of.Lines e)) writer-old writer-new = Unwritten e writer-old writer-new
IsCheckedOf origin m _ writer-old writer-new = ⊥

-- the same of the current map; or of the map of the name, or the project has none
abbrev pub IsCheckedIn : (List ℕ → Kind → ℕ → List ℕ) → Option (List ℕ) → MapsView
    → Result ℕ Refusal → Option (List ℕ) → Option (List ℕ) → Type 0
IsCheckedIn origin None maps how writer-old writer-new =
    IsCheckedOf origin maps.tables how writer-old writer-new
IsCheckedIn origin (Some name) maps how writer-old writer-new =
    ((how ≡ Err of.NoSuchMap) × (find (is_called name) (project_of maps).maps ≡ None)
    × Keeps writer-old writer-new)
    ⊎ ((m : Tables) × (find (is_called name) (project_of maps).maps ≡ Some m)
    × IsCheckedOf origin m how writer-old writer-new)
