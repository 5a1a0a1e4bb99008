-- The references of a tree's segs, subsectors and nodes lie in their lists (docs/FORMAT.md).
use Rattle.std.specs.Prelude.{◌≡◌, ◌≢◌, ℕ, ◌+◌, ◌-◌, ◌<◌, ◌≤◌, ◌⊎◌, ◌&&◌, ◌==◌, nat_lt, List, [], ◌∷◌, length, slice_get, Some, All, flat_map, count_by}
use Rattle.lump_records.specs.Sides.{no_side}
use Rattle.lump_records.specs.declared.records.Vertex.{Vertex}
use Rattle.lump_records.specs.declared.records.Line.{Line}
use Rattle.lump_records.specs.declared.records.Seg.{Seg}
use Rattle.lump_records.specs.declared.records.Sub.{Sub}
use Rattle.lump_records.specs.declared.records.Node.{Node}

-- the greatest number that signed and unsigned readers take alike
abbrev pub greatest_number : ℕ
greatest_number = 32767

-- from here on a child is a subsector
abbrev pub sub_bit : ℕ
sub_bit = 32768

-- the number names an item of the list
pub record IsIn {X : Type 0} (xs : List X) (n : ℕ) : Type 0 where
  pub among : n < length xs
  pub small : n ≤ greatest_number

-- the line has the side: 0 is the right one, 1 the left one
abbrev pub HasSide : List Line → ℕ → ℕ → Type 0
HasSide lines line side =
    (side ≡ 0) ⊎ ((side ≡ 1) × ((l : Line) → slice_get lines line ≡ Some l → l.left ≢ no_side))

-- the seg's ends are vertices, its line is a line, and has the seg's side
pub record SegInRange (vertices : List Vertex) (lines : List Line) (s : Seg) : Type 0 where
  pub first : IsIn vertices s.first
  pub second : IsIn vertices s.second
  pub line : IsIn lines s.line
  pub side : HasSide lines s.line s.side

-- the subsectors' runs of segs follow one another from `at` to `to`; none is empty
abbrev pub Tiles : ℕ → List Sub → ℕ → Type 0
Tiles at [] to = at ≡ to
Tiles at (s ∷ subs) to = (0 < s.count) × (s.first ≡ at) × (s.first ≤ greatest_number)
    × Tiles (at + s.count) subs to

-- a child of the node i: a node below it, or a subsector
pub record ChildInRange (subs : List Sub) (i c : ℕ) : Type 0 where
  pub node : c < sub_bit → c < i
  pub sub : sub_bit ≤ c → IsIn subs (c - sub_bit)

-- the children of each node, the right one first
abbrev pub below_each : List Node → List ℕ
below_each nodes = flat_map (λ m. m.right ∷ m.left ∷ []) nodes

-- the children of all nodes; with no nodes subsector 0 stands for the root
abbrev pub children : List Node → List ℕ
children [] = sub_bit ∷ []
children (n ∷ nodes) = below_each (n ∷ nodes)

-- how often a subsector, or a node, is a child
abbrev pub times_sub : List Node → ℕ → ℕ
times_sub nodes s = count_by (λ c. c == (sub_bit + s)) (children nodes)

abbrev pub times_node : List Node → ℕ → ℕ
times_node nodes i = count_by (λ c. nat_lt c sub_bit && (c == i)) (children nodes)

-- each reference lies in its list; subsectors tile the segs; each subsector and each node but the
-- last is a child once
pub record TreeInRange (vs : List Vertex) (ls : List Line) (ss : List Seg) (us : List Sub)
    (ns : List Node) : Type 0 where
  pub segs : All (SegInRange vs ls) ss
  pub tiles : Tiles 0 us (length ss)
  pub node_children : (i : ℕ) (n : Node) → slice_get ns i ≡ Some n → ChildInRange us i n.right
      × ChildInRange us i n.left
  pub some_sub : 0 < length us
  pub subs_once : (s : ℕ) → s < length us → times_sub ns s ≡ 1
  pub nodes_once : (i : ℕ) → i + 1 < length ns → times_node ns i ≡ 1
