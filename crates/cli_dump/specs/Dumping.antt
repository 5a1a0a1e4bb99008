-- What `dump` writes of maps (docs/COMMANDS.md, "The program").
use Rattle.std.specs.Prelude.{◌≡◌, ℕ, true, false, if◌then◌else◌, Option, Result, Ok, Err, List, [], ◌∷◌}
use Rattle.std.specs.Io.KnownBytes.{Appends, Keeps}
use Rattle.lump_records.specs.Names.{name_text}
use Rattle.map_tables.specs.Projects.{MapsView, project_of}
use Rattle.map_tables.specs.Tables.{Tables}
use Rattle.map_dump.specs.Dump.{dump_of, map_dump_of}
use Rattle.map_dump.specs.MapDumps.{map_dumps_of}
use Rattle.map_dump.specs.Texts.{WritesFront, text_of}
use Rattle.run_edit.specs.declared.error.EditorError.TheVariants.{OutOfMemory, WriterFailed}
use Rattle.cli_refusals.specs.declared.refusal.Refusal.{Refusal}
use Rattle.cli_refusals.specs.declared.refusal.Refusal.TheVariants as of
use Rattle.cli_dump.specs.Asked.{asked_maps, have_maps}
use Rattle.wad_file.specs.Names.{is_asked}

-- the lines that draw these maps again were written, each with LF behind it; or those before one
-- that found no memory; or the writer failed
abbrev pub IsDumpedOf : MapsView → Result ℕ Refusal → Option (List ℕ) → Option (List ℕ) → Type 0
IsDumpedOf maps (Ok status) writer-old writer-new =
    (status ≡ 0) × Appends writer-old writer-new (text_of (dump_of (project_of maps)))
IsDumpedOf maps (Err (of.Lines OutOfMemory)) writer-old writer-new =
    WritesFront (dump_of (project_of maps)) writer-old writer-new
IsDumpedOf maps (Err (of.Lines WriterFailed)) writer-old writer-new = Unit {0}
IsDumpedOf maps _ writer-old writer-new = ⊥

-- the lines of a map that is asked for
abbrev pub lines_asked : List (List ℕ) → Tables → List (List ℕ)
lines_asked names m = if is_asked names (name_text m.name) then map_dump_of m else []

-- the lines that draw each map of the names were written, or those before one that found no memory;
-- or, with nothing written, one of the names is no map's; or the writer failed
abbrev pub IsDumpedBy : List (List ℕ) → MapsView → Result ℕ Refusal → Option (List ℕ)
    → Option (List ℕ) → Type 0
IsDumpedBy names maps (Ok status) writer-old writer-new =
    (status ≡ 0) × (have_maps (project_of maps) names ≡ true)
    × Appends writer-old writer-new (text_of (map_dumps_of (asked_maps names (project_of maps))))
IsDumpedBy names maps (Err of.NoSuchMap) writer-old writer-new =
    (have_maps (project_of maps) names ≡ false) × Keeps writer-old writer-new
IsDumpedBy names maps (Err (of.Lines OutOfMemory)) writer-old writer-new =
    (have_maps (project_of maps) names ≡ true)
    × WritesFront (map_dumps_of (asked_maps names (project_of maps))) writer-old writer-new
IsDumpedBy names maps (Err (of.Lines WriterFailed)) writer-old writer-new = Unit {0}
IsDumpedBy names maps _ writer-old writer-new = ⊥

-- the lines of all maps were written, or, where there are names, those of the maps of these names
abbrev pub IsDumpedIn : List (List ℕ) → MapsView → Result ℕ Refusal → Option (List ℕ)
    → Option (List ℕ) → Type 0
IsDumpedIn [] maps how writer-old writer-new = IsDumpedOf maps how writer-old writer-new
IsDumpedIn (name ∷ names) maps how writer-old writer-new =
    IsDumpedBy (name ∷ names) maps how writer-old writer-new
