-- The element that draws the partition of a node.
use Rattle.std.specs.Prelude.{ℕ, List, [], ◌∷◌, ◌++◌, codes, decimal, ◌-ℤ◌, unsigned_abs}
use Rattle.std.specs.Fmt.{signed_decimal}
use Rattle.lump_records.specs.declared.records.Bounds.{Bounds}
use Rattle.lump_records.specs.declared.records.Node.{Node}
use Rattle.lump_text.specs.Texts.{joined}
use Rattle.map_svg.specs.Boxes.{box_round}
use Rattle.map_svg.specs.Places.{back_of, forth_of, spot_of}
use Rattle.map_svg.specs.declared.places.Shift.{Shift}
use Rattle.map_svg.specs.declared.places.Spot.{Spot}

-- the element's beginning, up to the partition in its title
unfoldable pub node_opening : ℕ → List ℕ
node_opening n =
    joined
    (codes "<g id=\"node" ∷ decimal n ∷ codes "\" class=\"node\">\n<title>node " ∷ decimal n
    ∷ codes ": " ∷ [])

-- the partition, as the title says it, and the title's end
unfoldable pub partition_text : Node → List ℕ
partition_text d =
    joined
    (codes "from " ∷ signed_decimal d.x ∷ codes " " ∷ signed_decimal d.y ∷ codes " by "
    ∷ signed_decimal d.dx ∷ codes " " ∷ signed_decimal d.dy ∷ codes "</title>\n" ∷ [])

-- the box to which the partition of node n is clipped, by its upper left corner and its size
unfoldable pub clip_text : ℕ → Spot → ℕ → ℕ → List ℕ
clip_text n corner width height =
    joined
    (codes "<clipPath id=\"box" ∷ decimal n ∷ codes "\">\n<rect x=\"" ∷ signed_decimal corner.x
    ∷ codes "\" y=\"" ∷ signed_decimal corner.y ∷ codes "\" width=\"" ∷ decimal width
    ∷ codes "\" height=\"" ∷ decimal height ∷ codes "\"/></clipPath>\n" ∷ [])

-- the box of node n
abbrev pub box_text : ℕ → Bounds → List ℕ
box_text n b =
    clip_text n (spot_of (record { x = b.left; y = b.top })) (unsigned_abs (b.right -ℤ b.left))
    (unsigned_abs (b.top -ℤ b.bottom))

-- the path's beginning: it is clipped to the box of node n
unfoldable pub clipped_by : ℕ → List ℕ
clipped_by n =
    joined (codes "<path clip-path=\"url(#box" ∷ decimal n ∷ codes ")\" d=\"" ∷ [])

-- a stroke from a place along a vector
unfoldable pub ray_text : Spot → Shift → List ℕ
ray_text p way =
    joined
    (codes "M" ∷ signed_decimal p.x ∷ codes " " ∷ signed_decimal p.y ∷ codes "l"
    ∷ signed_decimal way.dx ∷ codes " " ∷ signed_decimal way.dy ∷ [])

-- the beginning of a node's element: its title, and the least box round its children's boxes
unfoldable pub node_head : ℕ → Node → List ℕ
node_head n d = node_opening n ++ partition_text d ++ box_text n (box_round d.right_box d.left_box)

-- a node's path: the partition in both directions, clipped to the box with the node's number
unfoldable pub node_path : ℕ → Node → List ℕ
node_path n d =
    let p = spot_of (record { x = d.x; y = d.y }) in
    clipped_by n ++ ray_text p (forth_of d) ++ ray_text p (back_of d) ++ codes "\"/></g>\n"

-- the element of a node
unfoldable pub node_element : ℕ → Node → List ℕ
node_element n d = node_head n d ++ node_path n d
