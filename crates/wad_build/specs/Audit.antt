-- The first fault of a level.
use Rattle.std.specs.Prelude.{ℕ, ◌+◌, ◌-◌, Bool, cond, not, ◌==◌, ◌&&◌, ◌||◌, nat_lt, nat_le, List, [], ◌∷◌, ◌++◌, length, get_or, take, drop, Option, Some, None, position, sum_by}
use Rattle.std.specs.Option.{option_map}
use Rattle.std.specs.List.{enumerate_from, range_with_len}
use Rattle.lump_records.specs.declared.records.Line.{Line}
use Rattle.lump_records.specs.declared.records.Seg.{Seg}
use Rattle.lump_records.specs.declared.records.Sub.{Sub}
use Rattle.lump_records.specs.declared.records.Node.{Node}
use Rattle.wad_build.specs.Words.{words}
use Rattle.tree_blocks.specs.Layout.{greatest_offset}
use Rattle.wad_levels.specs.Levels.{Lumps}
use Rattle.lump_records.specs.Sides.{no_side, is_two_sided}
use Rattle.wad_build.specs.Endings.{ends_in_lines}
use Rattle.wad_build.specs.Reject.{reject_size}
use Rattle.tree_nodes.specs.InRange.{greatest_number, sub_bit, times_sub, times_node}
use Rattle.wad_build.specs.Range.{blocks_in}
use Rattle.wad_build.specs.declared.fault.Fault.{Fault}
use Rattle.wad_build.specs.declared.fault.Fault.TheVariants.{LineVertex, LineSide, SideSector, SegVertex, SegLine, SegSide, SubRange, SubTotal, NodeChild, SubOnce, NodeOnce, Reject, BlockHeader, BlockList}

-- ---- the tests
abbrev pub is_in_range : {X : Type 0} → List X → ℕ → Bool
is_in_range xs n = nat_lt n (length xs) && nat_le n greatest_number

abbrev pub line_vertices : Lumps → Line → Bool
line_vertices l x = is_in_range l.vertices x.v1 && is_in_range l.vertices x.v2

-- the left side is in range, or missing on a line that isn't two-sided
abbrev pub left_side : Lumps → Line → Bool
left_side l x = cond (x.left == no_side) (not (is_two_sided x)) (is_in_range l.sides x.left)

abbrev pub line_sides : Lumps → Line → Bool
line_sides l x = is_in_range l.sides x.right && left_side l x

abbrev pub seg_vertices : Lumps → Seg → Bool
seg_vertices l s = is_in_range l.vertices s.first && is_in_range l.vertices s.second

-- the seg's line, or a line without a left side if the seg's line doesn't exist
abbrev pub line_of_seg : Lumps → Seg → Line
line_of_seg l s =
    get_or l.lines s.line
    (record { v1 = 0; v2 = 0; flags = 0; special = 0; tag = 0; right = 0; left = no_side })

abbrev pub seg_side : Lumps → Seg → Bool
seg_side l s = (s.side == 0) || ((s.side == 1) && not ((line_of_seg l s).left == no_side))

-- each subsector, paired with the sum of the counts of those before it
abbrev pub after_counts : ℕ → List Sub → List (ℕ × Sub)
after_counts at [] = []
after_counts at (s ∷ subs) = (at, s) ∷ after_counts (at + s.count) subs

abbrev pub sub_range : ℕ × Sub → Bool
sub_range p = nat_lt 0 p.1.count && (p.1.first == p.0) && nat_le p.1.first greatest_number

abbrev pub child_right : Lumps → ℕ → ℕ → Bool
child_right l i c = cond (nat_lt c sub_bit) (nat_lt c i) (is_in_range l.subs (c - sub_bit))

abbrev pub node_children : Lumps → ℕ × Node → Bool
node_children l p = child_right l p.0 p.1.right && child_right l p.0 p.1.left

-- the list at an offset begins where readers can find it, ends in the lump and names only lines
abbrev pub block_list : Lumps → List ℕ → ℕ → Bool
block_list l ws at =
    nat_lt at (length ws) && nat_le at greatest_offset
    && ends_in_lines (length l.lines) (drop at ws)

-- ---- the faults in order
abbrev pub first_wrong : {X : Type 0} → (X → Bool) → List X → Option ℕ
first_wrong right xs = position (λ x. not (right x)) xs

abbrev pub fault_unless : {F : Type 0} → Bool → F → Option F
fault_unless right fault = cond right None (Some fault)

abbrev pub first_some : {X : Type 0} → List (Option X) → Option X
first_some [] = None
first_some (o ∷ os) = elim o [ Some x ↦ Some x | None ↦ first_some os ]

-- the first fault of each kind, in the order of the kinds

abbrev pub drawn_faults : Lumps → List (Option Fault)
drawn_faults l =
    option_map LineVertex (first_wrong (line_vertices l) l.lines)
    ∷ option_map LineSide (first_wrong (line_sides l) l.lines)
    ∷ option_map SideSector (first_wrong (λ s. is_in_range l.sectors s.sector) l.sides)
    ∷ []

abbrev pub seg_faults : Lumps → List (Option Fault)
seg_faults l =
    option_map SegVertex (first_wrong (seg_vertices l) l.segs)
    ∷ option_map SegLine (first_wrong (λ s. is_in_range l.lines s.line) l.segs)
    ∷ option_map SegSide (first_wrong (seg_side l) l.segs)
    ∷ []

abbrev pub sub_faults : Lumps → List (Option Fault)
sub_faults l =
    option_map SubRange (first_wrong sub_range (after_counts 0 l.subs))
    ∷ fault_unless (sum_by (λ s. s.count) l.subs == length l.segs) SubTotal
    ∷ []

abbrev pub child_faults : Lumps → List (Option Fault)
child_faults l =
    option_map NodeChild (first_wrong (node_children l) (enumerate_from 0 l.nodes))
    ∷ fault_unless (nat_lt 0 (length l.subs)) (SubOnce 0)
    ∷ []

abbrev pub once_faults : Lumps → List (Option Fault)
once_faults l =
    option_map SubOnce
    (first_wrong (λ s. times_sub l.nodes s == 1) (range_with_len 0 (length l.subs)))
    ∷ option_map NodeOnce
    (first_wrong (λ i. times_node l.nodes i == 1) (range_with_len 0 (length l.nodes - 1)))
    ∷ []

abbrev pub size_faults : Lumps → List (Option Fault)
size_faults l =
    fault_unless (nat_le (reject_size (length l.sectors)) (length l.reject)) Reject
    ∷ fault_unless
    (nat_le (4 + blocks_in (words l.blockmap)) (length (words l.blockmap))) BlockHeader
    ∷ []

abbrev pub block_faults : Lumps → List (Option Fault)
block_faults l =
    let ws = words l.blockmap in
    (option_map BlockList (first_wrong (block_list l ws) (take (blocks_in ws) (drop 4 ws))) ∷ [])

abbrev pub list_faults : Lumps → List (Option Fault)
list_faults l = drawn_faults l ++ seg_faults l ++ sub_faults l ++ child_faults l

abbrev pub lump_faults : Lumps → List (Option Fault)
lump_faults l = size_faults l ++ block_faults l

abbrev pub level_faults : Lumps → List (Option Fault)
level_faults l = list_faults l ++ once_faults l ++ lump_faults l

-- the fault that an audit returns
abbrev pub first_fault : Lumps → Option Fault
first_fault l = first_some (level_faults l)
