-- What was done with a file that is a project, a WAD or a script: it tells no bytes, so which one is
-- open.
use Rattle.std.specs.Prelude.{◌⊎◌, ℕ, Option, Result, List}
use Rattle.std.specs.Io.KnownBytes.{Keeps}
use Rattle.map_tables.specs.Projects.{MapsView}
use Rattle.cli_refusals.specs.declared.refusal.Refusal.{Refusal}
use Rattle.run_canvas.specs.Canvases.{OneOf}
use Rattle.cli_sources.specs.Opened.{EndsUnopened}
use Rattle.cli_sources.specs.Unread.{EndsUnread}
use Rattle.cli_scripts.specs.DrawnInto.{is_file}
use Rattle.cli_print.specs.Origins.{no_origin}
use Rattle.cli_scripts.specs.ScriptCanvases.{ItemOrigin, ScriptCanvas}
use Rattle.cli_scripts.specs.ScriptMaps.{OverScript, OverSomeScript}

-- no project was opened and nothing written, or this was done with the maps of some project
abbrev pub OverSomeMaps : Result ℕ Refusal → Option (List ℕ) → Option (List ℕ)
    → (MapsView → Type 0) → Type 0
OverSomeMaps how writer-old writer-new does =
    EndsUnopened how writer-old writer-new ⊎ ((maps : MapsView) × does maps)

-- this was done with the maps of some project, whose items come from nowhere, or of some script at
-- the path; or that with some WAD; or a WAD or a script was not read to its end
abbrev pub OverSome : {S : Type 0} → ScriptCanvas S → List ℕ → Result ℕ Refusal → Option (List ℕ)
    → Option (List ℕ) → Option (List ℕ) → Option (List ℕ) → (ItemOrigin → MapsView → Type 0)
    → (List ℕ → Type 0) → Type 0
OverSome on path how writer-old writer-new faults-old faults-new does does-of-wad =
    (OverSomeMaps how writer-old writer-new (does no_origin) × Keeps faults-old faults-new)
    ⊎ (EndsUnread how writer-old writer-new × Keeps faults-old faults-new)
    ⊎ ((wad : List ℕ) × does-of-wad wad)
    ⊎ OverSomeScript on path how writer-old writer-new faults-old faults-new does

-- the same of the file at a path, and the input stays; or `-` is the path, and it was done with the
-- maps of the script that the input gave
abbrev pub OverSource : {S : Type 0} → ScriptCanvas S → List ℕ → Result ℕ Refusal
    → Option (List ℕ) → Option (List ℕ) → Option (List ℕ) → Option (List ℕ) → Option (List ℕ)
    → Option (List ℕ) → (ItemOrigin → MapsView → Type 0) → (List ℕ → Type 0) → Type 0
OverSource on path how reader-old reader-new writer-old writer-new faults-old faults-new does
    does-of-wad =
    OneOf (is_file path)
    (OverSome on path how writer-old writer-new faults-old faults-new does does-of-wad
    × Keeps reader-old reader-new)
    (OverScript on path reader-old reader-new how writer-old writer-new faults-old faults-new does)
