-- Nodes: what lies below a child, the least box of it, and how a node parts the segs below.
use Rattle.std.specs.Prelude.{◌≡◌, ℕ, ◌+◌, ◌<◌, ◌⊎◌, List, length, slice_get, ◌≤ℤ◌, Some}
use Rattle.lump_records.specs.declared.records.Vertex.{Vertex}
use Rattle.lump_records.specs.declared.records.Seg.{Seg}
use Rattle.lump_records.specs.declared.records.Sub.{Sub}
use Rattle.lump_records.specs.declared.records.Node.{Node}
use Rattle.lump_records.specs.declared.records.Bounds.{Bounds}
use Rattle.tree_pieces.specs.declared.edge.Edge.{Edge}
use Rattle.lump_records.specs.declared.plane.Ray.{Ray}
use Rattle.tree_pieces.specs.declared.edge.Facing.{Facing}
use Rattle.tree_pieces.specs.Plane.{ray}
use Rattle.tree_pieces.specs.Pieces.{edge_at}
use Rattle.tree_pieces.specs.Segs.{first_place, second_place, InSub, SegLiesRight, SegLiesLeft}

-- the seg i lies below a child: a number from 32768 is a subsector, a lower one a node
pub data Below (nodes : List Node) (subs : List Sub) : ℕ → ℕ → Type 0 where
  in_sub : (n i : ℕ) (sub : Sub) → slice_get subs n ≡ Some sub → InSub sub i →
      Below nodes subs (32768 + n) i
  on_right : {n i : ℕ} (node : Node) → n < 32768 → slice_get nodes n ≡ Some node →
      Below nodes subs node.right i → Below nodes subs n i
  on_left : {n i : ℕ} (node : Node) → n < 32768 → slice_get nodes n ≡ Some node →
      Below nodes subs node.left i → Below nodes subs n i

-- the least box of some places: each lies in it, and one lies on each of its sides
pub record IsLeastBox (b : Bounds) (IsPlace : Vertex → Type 0) : Type 0 where
  pub inside : (v : Vertex) → IsPlace v →
      (b.left ≤ℤ v.x) × (v.x ≤ℤ b.right) × (b.bottom ≤ℤ v.y) × (v.y ≤ℤ b.top)
  pub left : (v : Vertex) × IsPlace v × (v.x ≡ b.left)
  pub right : (v : Vertex) × IsPlace v × (v.x ≡ b.right)
  pub bottom : (v : Vertex) × IsPlace v × (v.y ≡ b.bottom)
  pub top : (v : Vertex) × IsPlace v × (v.y ≡ b.top)

-- a node's start and vector
abbrev pub node_ray : Node → Ray
node_ray n = record { start = record { x = n.x; y = n.y }; dx = n.dx; dy = n.dy }

module _ (lines : List Edge) (vertices : List Vertex) (segs : List Seg) (subs : List Sub)
    (nodes : List Node) where
  -- a place is an end of a seg below a child
  abbrev pub IsEndBelow : ℕ → Vertex → Type 0
  IsEndBelow child v =
      (i : ℕ) × (s : Seg) × Below nodes subs child i × (slice_get segs i ≡ Some s) ×
      ((v ≡ first_place lines vertices s) ⊎ (v ≡ second_place lines vertices s))

  -- a node parts the segs below it by a whole line in one of its directions, and has their least
  -- boxes
  pub record IsParting (n : Node) : Type 0 where
    pub along : (line : ℕ) × (side : Facing) × (line < length lines) ×
        (node_ray n ≡ ray (edge_at lines line) side)
    pub on_right : (i : ℕ) (s : Seg) → Below nodes subs n.right i → slice_get segs i ≡ Some s →
        SegLiesRight lines vertices (node_ray n) s
    pub on_left : (i : ℕ) (s : Seg) → Below nodes subs n.left i → slice_get segs i ≡ Some s →
        SegLiesLeft lines vertices (node_ray n) s
    pub right_box : IsLeastBox n.right_box (IsEndBelow n.right)
    pub left_box : IsLeastBox n.left_box (IsEndBelow n.left)
