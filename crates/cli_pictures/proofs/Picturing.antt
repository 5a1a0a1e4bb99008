-- How the map that was wanted was drawn.
use Rattle.std.proofs.Common.{◌≡◌, inl, inr, ℕ, Bool, List, Option, Some, Result, Ok, Err}
use Rattle.run_edit.specs.declared.error.EditorError.TheVariants.{OutOfMemory, InputTooLong, ReaderFailed, WriterFailed}
use Rattle.map_tables.specs.Projects.{MapsView, project_of}
use Rattle.map_tables.specs.Tables.{Tables}
use Rattle.cli_pictures.specs.LaidOver.{IsLaidOver, NotLaidOver}
use Rattle.cli_pictures.specs.Picturing.{IsDrawn, IsPicturedOf, drawn_map}
use Rattle.cli_pictures.specs.declared.laid_over.Layers.{Layers}
use Rattle.cli_refusals.specs.declared.refusal.Refusal.{Refusal}
use Rattle.cli_refusals.specs.declared.refusal.Refusal.TheVariants.{Build, Level, Lines, NoSuchMap, NotAMap, Project, TreeOutside}
use Rattle.map_svg.specs.declared.overlay.Overlay.{Overlay}

-- the map that was wanted was drawn so
pub drawn_to : (layers : Layers) (name : Option (List ℕ)) (into : Bool) (maps : MapsView) (how : Result ℕ Refusal) (u w : Option (List ℕ)) (m : Tables) (o : Overlay)
    → drawn_map name (project_of maps) ≡ Some m → IsLaidOver layers m o → IsDrawn layers m o into how u w → IsPicturedOf layers name into maps how u w
drawn_to layers name into maps (Ok status) u w m o at laid done = (m, o, at, laid, done)
drawn_to layers name into maps (Err (Lines OutOfMemory)) u w m o at laid (inl file, kept) = (inl file, kept)
drawn_to layers name into maps (Err (Lines OutOfMemory)) u w m o at laid (inr heights, kept) = (inr (inl heights), kept)
drawn_to layers name into maps (Err (Lines WriterFailed)) u w m o at laid left = left
drawn_to layers name into maps (Err (Lines InputTooLong)) u w m o at laid never = absurd never
drawn_to layers name into maps (Err (Lines ReaderFailed)) u w m o at laid never = absurd never
drawn_to layers name into maps (Err (Project e)) u w m o at laid never = absurd never
drawn_to layers name into maps (Err (Level e)) u w m o at laid never = absurd never
drawn_to layers name into maps (Err (Build e)) u w m o at laid never = absurd never
drawn_to layers name into maps (Err NoSuchMap) u w m o at laid never = absurd never
drawn_to layers name into maps (Err (NotAMap e)) u w m o at laid never = absurd never
drawn_to layers name into maps (Err TreeOutside) u w m o at laid never = absurd never
