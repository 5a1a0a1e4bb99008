-- What `picture` writes of maps (docs/COMMANDS.md, "The program").
use Rattle.std.specs.Prelude.{◌≡◌, ◌⊎◌, ℕ, Bool, true, false, Option, None, Some, Result, Ok, Err, List, find}
use Rattle.std.specs.Io.KnownBytes.{Appends, Keeps}
use Rattle.map_tables.specs.Projects.{MapsView, ProjectMaps, current_map, project_of}
use Rattle.map_tables.specs.Tables.{Tables}
use Rattle.map_picture.specs.Picture.{WantsMemory, picture_of}
use Rattle.map_svg.specs.declared.overlay.Overlay.{Overlay}
use Rattle.cli_print.specs.Called.{is_called}
use Rattle.cli_pictures.specs.LaidOver.{IsLaidOver, NotLaidOver}
use Rattle.cli_pictures.specs.declared.laid_over.Layers.{Layers}
use Rattle.run_edit.specs.declared.error.EditorError.TheVariants.{OutOfMemory, WriterFailed}
use Rattle.cli_refusals.specs.declared.refusal.Refusal.{Refusal}
use Rattle.cli_refusals.specs.declared.refusal.Refusal.TheVariants as of

-- the map that is drawn: the one of the name, or the current one where none is asked for
abbrev pub drawn_map : Option (List ℕ) → ProjectMaps → Option Tables
drawn_map None p = Some (current_map p)
drawn_map (Some name) p = find (is_called name) p.maps

-- the picture was written to the output, or nothing where it goes into a file
abbrev pub IsShown : Bool → List ℕ → Option (List ℕ) → Option (List ℕ) → Type 0
IsShown false picture writer-old writer-new = Appends writer-old writer-new picture
IsShown true picture writer-old writer-new = Keeps writer-old writer-new

-- what became of the output where the writer of a picture failed: of one that goes into a file
-- nothing is written there
abbrev pub IsLeft : Bool → Option (List ℕ) → Option (List ℕ) → Type 0
IsLeft false writer-old writer-new = Unit {0}
IsLeft true writer-old writer-new = Keeps writer-old writer-new

-- the picture of the map, with what is laid over it, was drawn; or one that goes into a file or
-- shows heights or numbers found no memory, and nothing was written; or the writer or the file failed
abbrev pub IsDrawn : Layers → Tables → Overlay → Bool → Result ℕ Refusal → Option (List ℕ)
    → Option (List ℕ) → Type 0
IsDrawn layers m o into (Ok status) writer-old writer-new =
    (status ≡ 0)
    × IsShown into (picture_of layers.options m o) writer-old writer-new
IsDrawn layers m o into (Err (of.Lines OutOfMemory)) writer-old writer-new =
    ((into ≡ true) ⊎ WantsMemory layers.options) × Keeps writer-old writer-new
IsDrawn layers m o into (Err (of.Lines WriterFailed)) writer-old writer-new =
    IsLeft into writer-old writer-new
IsDrawn layers m o into _ writer-old writer-new = ⊥

-- the map of the name was drawn, with what is wanted over it; or, with nothing written, there is no
-- such map, or its tree is refused, or marks, heights, numbers or a picture that goes into a file
-- found no memory; or the writer or the file failed
abbrev pub IsPicturedOf : Layers → Option (List ℕ) → Bool → MapsView → Result ℕ Refusal
    → Option (List ℕ) → Option (List ℕ) → Type 0
IsPicturedOf layers name into maps (Ok status) writer-old writer-new =
    (m : Tables) × (o : Overlay) × (drawn_map name (project_of maps) ≡ Some m)
    × IsLaidOver layers m o × IsDrawn layers m o into (Ok status) writer-old writer-new
IsPicturedOf layers name into maps (Err of.NoSuchMap) writer-old writer-new =
    (drawn_map name (project_of maps) ≡ None) × Keeps writer-old writer-new
IsPicturedOf layers name into maps (Err (of.Build e)) writer-old writer-new =
    (m : Tables) × (drawn_map name (project_of maps) ≡ Some m)
    × NotLaidOver layers.nodes layers.lint m (of.Build e) × Keeps writer-old writer-new
IsPicturedOf layers name into maps (Err (of.Lines OutOfMemory)) writer-old writer-new =
    ((into ≡ true) ⊎ WantsMemory layers.options ⊎ (layers.lint ≡ true))
    × Keeps writer-old writer-new
IsPicturedOf layers name into maps (Err (of.Lines WriterFailed)) writer-old writer-new =
    IsLeft into writer-old writer-new
IsPicturedOf layers name into maps _ writer-old writer-new = ⊥
