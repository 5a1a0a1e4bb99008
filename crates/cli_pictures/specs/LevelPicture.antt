-- What `picture` writes of a level of a WAD (docs/COMMANDS.md, "The program").
use Rattle.std.specs.Prelude.{◌≡◌, ◌⊎◌, ℕ, Bool, true, false, List, [], map, Option, None, Some, Result, Ok, Err}
use Rattle.std.specs.Io.KnownBytes.{Keeps}
use Rattle.run_edit.specs.declared.error.EditorError.TheVariants.{OutOfMemory, WriterFailed}
use Rattle.run_edit.specs.declared.error.InspectError.TheVariants as inspecting
use Rattle.wad_import.specs.declared.error.ImportError.{ImportError}
use Rattle.wad_levels.specs.declared.entries.LevelEntries.{LevelEntries}
use Rattle.wad_levels.specs.declared.error.ReadError.{ReadError}
use Rattle.wad_levels.specs.declared.error.ReadError.TheVariants as reading
use Rattle.map_tables.specs.Tables.{Tables}
use Rattle.cli_refusals.specs.declared.refusal.Refusal.{Refusal}
use Rattle.cli_refusals.specs.declared.refusal.Refusal.TheVariants as of
use Rattle.map_svg.specs.declared.overlay.Overlay.{Overlay}
use Rattle.cli_pictures.specs.LaidOver.{marks_shown}
use Rattle.cli_print.specs.LevelLines.{level_map, map_refusal}
use Rattle.cli_pictures.specs.LevelTree.{IsOwnTree, tree_refusal}
use Rattle.cli_pictures.specs.Marking.{said_at}
use Rattle.cli_pictures.specs.Picturing.{IsDrawn, IsLeft}
use Rattle.cli_print.specs.WantedLevels.{IsWanted, RefusesWanted}
use Rattle.cli_pictures.specs.declared.laid_over.Layers.{Layers}
use Rattle.cli_pictures.specs.declared.level_tree.TreeFault.{TreeFault}
use Rattle.cli_pictures.specs.declared.level_tree.TreeFault.TheVariants as tree

-- the tree that is shown: the one that the WAD has of the level, where it is wanted, and else none
abbrev pub IsOwnTreeShown : Bool → List ℕ → LevelEntries → Overlay → Type 0
IsOwnTreeShown true wad l o = (tree_refusal wad l ≡ None) × IsOwnTree wad l o
IsOwnTreeShown false wad l o = (o.subs.items ≡ []) × (o.nodes.items ≡ [])

-- what is laid over the picture of a level that is this map
pub record IsLaidOverLevel (layers : Layers) (wad : List ℕ) (l : LevelEntries) (m : Tables)
    (o : Overlay) : Type 0 where
  pub tree : IsOwnTreeShown layers.nodes wad l o
  pub marks : map said_at o.marks.items ≡ marks_shown layers.lint m

-- the refusal of a request by that of the tree
abbrev pub refusal_for_tree : TreeFault → Refusal
refusal_for_tree tree.Length = of.Level (inspecting.Level reading.LumpLength)
refusal_for_tree tree.Missing = of.Level (inspecting.Level reading.LumpMissing)
refusal_for_tree tree.Outside = of.TreeOutside
refusal_for_tree tree.OutOfMemory = of.Lines OutOfMemory

-- the tree is wanted and refused
abbrev pub RefusesLayers : Layers → List ℕ → LevelEntries → Refusal → Type 0
RefusesLayers layers wad l r = (e : TreeFault) × (layers.nodes ≡ true)
    × (tree_refusal wad l ≡ Some e)
    × (r ≡ refusal_for_tree e)

-- why no picture of a level is drawn: there is no such level, it is no map, its tree is refused, or
-- there is no memory
abbrev pub NotPictured : Layers → Option (List ℕ) → List ℕ → Refusal → Type 0
NotPictured layers name wad r =
    ((e : ReadError) × RefusesWanted wad name e × (r ≡ of.Level (inspecting.Level e)))
    ⊎ ((l : LevelEntries) × (e : ImportError) × IsWanted wad name l × (map_refusal wad l ≡ Some e)
    × (r ≡ of.NotAMap e))
    ⊎ ((l : LevelEntries) × IsWanted wad name l × RefusesLayers layers wad l r)
    ⊎ (r ≡ of.Lines OutOfMemory)

-- the last level of the name, or the first of all, was drawn as the map that it is after the
-- changes, with what is wanted over it; or nothing was written for that cause; or the writer or the
-- file failed
abbrev pub IsLevelPicturedOf : Layers → Option (List ℕ) → Bool → List ℕ → Result ℕ Refusal
    → Option (List ℕ) → Option (List ℕ) → Type 0
IsLevelPicturedOf layers name into wad (Ok status) writer-old writer-new =
    (l : LevelEntries) × (o : Overlay) × IsWanted wad name l × (map_refusal wad l ≡ None)
    × IsLaidOverLevel layers wad l (level_map wad l) o
    × IsDrawn layers (level_map wad l) o into (Ok status) writer-old writer-new
IsLevelPicturedOf layers name into wad (Err r) writer-old writer-new =
    (NotPictured layers name wad r × Keeps writer-old writer-new)
    ⊎ ((r ≡ of.Lines WriterFailed) × IsLeft into writer-old writer-new)
