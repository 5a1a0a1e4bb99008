-- The overlay of a picture.
use Rattle.std.specs.Prelude.{ℕ, List, ◌++◌}
use Rattle.map_svg.specs.Marks.{marking}
use Rattle.map_svg.specs.Nodes.{node_element}
use Rattle.map_svg.specs.Subsectors.{sub_element}
use Rattle.map_svg.specs.Texts.{of_list}
use Rattle.map_svg.specs.declared.overlay.Overlay.{Overlay}
use Rattle.map_svg.specs.declared.places.Spot.{Spot}

-- the elements of the subsectors, of the nodes, and of the marks
abbrev pub overlay_text : ℕ → Spot → Overlay → List ℕ
overlay_text step corner o =
    of_list (sub_element o step) o.subs.items ++ of_list node_element o.nodes.items
    ++ of_list (marking corner) o.marks.items
