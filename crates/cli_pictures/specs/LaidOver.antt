-- What a picture shows over the map (docs/COMMANDS.md, "The program").
use Rattle.std.specs.Prelude.{◌≡◌, ℕ, Bool, true, false, List, [], Option, None, map}
use Rattle.lump_records.specs.declared.records.Bounds.{Bounds}
use Rattle.map_tables.specs.Tables.{Tables}
use Rattle.tree_nodes.specs.Built.{IsBuilt, IsTreeRefusal}
use Rattle.tree_nodes.specs.declared.error.TreeError.{TreeError}
use Rattle.wad_build.specs.Sound.{of_tree}
use Rattle.map_svg.specs.declared.marks.MarkPlace.{MarkPlace}
use Rattle.map_svg.specs.declared.overlay.Overlay.{Overlay}
use Rattle.cli_pictures.specs.Marking.{marks_of, said_at}
use Rattle.cli_pictures.specs.declared.laid_over.Layers.{Layers}
use Rattle.run_edit.specs.declared.error.EditorError.TheVariants.{OutOfMemory}
use Rattle.run_edit.specs.declared.error.WriteError.TheVariants as writing
use Rattle.cli_refusals.specs.declared.refusal.Refusal.{Refusal}
use Rattle.cli_refusals.specs.declared.refusal.Refusal.TheVariants as of

-- what a picture shows by these wishes
abbrev pub layers_of : Bool → Bool → Bool → Option Bounds → Bool → Bool → Layers
layers_of numbers heights grid crop nodes lint =
    record {
      options = record { numbers = numbers; heights = heights; grid = grid; crop = crop };
      nodes = nodes;
      lint = lint;
    }

-- the tree that is shown: one that is built of the map, where it is wanted, and else none
abbrev pub IsTreeShown : Bool → Tables → Overlay → Type 0
IsTreeShown true m o =
    IsBuilt m
    (record { vertices = o.vertices; segs = o.segs; subs = o.subs; nodes = o.nodes })
IsTreeShown false m o = (o.subs.items ≡ []) × (o.nodes.items ≡ [])

-- the marks that are shown: those of the map, where they are wanted, and else none
abbrev pub marks_shown : Bool → Tables → List (MarkPlace × List ℕ)
marks_shown true m = marks_of m
marks_shown false m = []

-- what is laid over the picture of a map
pub record IsLaidOver (layers : Layers) (m : Tables) (o : Overlay) : Type 0 where
  pub tree : IsTreeShown layers.nodes m o
  pub marks : map said_at o.marks.items ≡ marks_shown layers.lint m

-- why nothing is laid over it: the map's tree is refused, or marks find no memory
abbrev pub NotLaidOver : Bool → Bool → Tables → Refusal → Type 0
NotLaidOver nodes lint m (of.Build (writing.Build e)) =
    (nodes ≡ true)
    × ((t : TreeError) × (e ≡ record { error = of_tree t; map = None }) × IsTreeRefusal m t)
NotLaidOver nodes lint m (of.Lines OutOfMemory) = lint ≡ true
NotLaidOver nodes lint m _ = ⊥
