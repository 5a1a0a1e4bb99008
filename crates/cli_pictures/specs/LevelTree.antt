-- The tree that a WAD has of a level, as a picture shows it (docs/COMMANDS.md, "The program").
use Rattle.std.specs.Prelude.{◌≡◌, ◌⊎◌, ℕ, ◌+◌, ◌-◌, ◌%◌, Bool, if◌then◌else◌, ◌&&◌, ◌==◌, nat_lt, nat_le, List, [], ◌∷◌, length, Option, Some}
use Rattle.std.specs.List.{list_all, sum_by}
use Rattle.lump_records.specs.Lumps.{records_of}
use Rattle.lump_records.specs.Records.{node_at, seg_at, sub_at, vertex_at}
use Rattle.lump_records.specs.declared.records.Node.{Node}
use Rattle.lump_records.specs.declared.records.Seg.{Seg}
use Rattle.lump_records.specs.declared.records.Sub.{Sub}
use Rattle.lump_records.specs.declared.records.Vertex.{Vertex}
use Rattle.wad_levels.specs.Drawn.{level_lump}
use Rattle.wad_file.specs.Directory.{first_failed}
use Rattle.wad_levels.specs.declared.entries.LevelEntries.{LevelEntries}
use Rattle.map_svg.specs.declared.overlay.Overlay.{Overlay}
use Rattle.cli_pictures.specs.declared.level_tree.TreeFault.{TreeFault}
use Rattle.cli_pictures.specs.declared.level_tree.TreeFault.TheVariants.{Length, Missing, Outside, OutOfMemory}

-- ---- what the level's lumps hold

abbrev pub own_vertices : List ℕ → LevelEntries → List Vertex
own_vertices wad l = records_of vertex_at 4 (level_lump wad l 3)

abbrev pub own_segs : List ℕ → LevelEntries → List Seg
own_segs wad l = records_of seg_at 12 (level_lump wad l 4)

abbrev pub own_subs : List ℕ → LevelEntries → List Sub
own_subs wad l = records_of sub_at 4 (level_lump wad l 5)

abbrev pub own_nodes : List ℕ → LevelEntries → List Node
own_nodes wad l = records_of node_at 28 (level_lump wad l 6)

-- the lists that are shown are these
pub record IsOwnTree (wad : List ℕ) (l : LevelEntries) (o : Overlay) : Type 0 where
  pub vertices : o.vertices.items ≡ own_vertices wad l
  pub segs : o.segs.items ≡ own_segs wad l
  pub subs : o.subs.items ≡ own_subs wad l
  pub nodes : o.nodes.items ≡ own_nodes wad l

-- ---- why they aren't shown

-- the four lumps are whole records long
abbrev pub has_whole_lumps : List ℕ → LevelEntries → Bool
has_whole_lumps wad l =
    ((length (level_lump wad l 3) % 4) == 0) && ((length (level_lump wad l 4) % 12) == 0)
    && ((length (level_lump wad l 5) % 4) == 0)
    && ((length (level_lump wad l 6) % 28) == 0)

-- the seg's ends are among so many vertices; the subsector's segs among so many segs
abbrev pub is_seg_among : ℕ → Seg → Bool
is_seg_among vertices s = nat_lt s.first vertices && nat_lt s.second vertices

abbrev pub is_sub_among : ℕ → Sub → Bool
is_sub_among segs s = nat_le (s.first + s.count) segs

-- the child is among so many nodes, or from 32,768 on among so many subsectors
abbrev pub is_child_among : ℕ → ℕ → ℕ → Bool
is_child_among nodes subs c = if nat_lt c 32768 then nat_lt c nodes else nat_lt (c - 32768) subs

abbrev pub is_node_among : ℕ → ℕ → Node → Bool
is_node_among nodes subs n = is_child_among nodes subs n.right && is_child_among nodes subs n.left

-- the subsectors have at most 65,536 segs in all, each counted for each subsector that has it
abbrev pub has_few_segs : List Sub → Bool
has_few_segs subs = nat_le (sum_by (λ (s : Sub). s.count) subs) 65536

-- each seg, subsector and node names what is there
abbrev pub are_among : List Vertex → List Seg → List Sub → List Node → Bool
are_among vertices segs subs nodes =
    list_all (is_seg_among (length vertices)) segs && list_all (is_sub_among (length segs)) subs
    && list_all (is_node_among (length nodes) (length subs)) nodes && has_few_segs subs

-- the first that holds: a lump's length, no subsector, a number of what isn't there
abbrev pub tree_refusal : List ℕ → LevelEntries → Option TreeFault
tree_refusal wad l =
    first_failed
    ((has_whole_lumps wad l, Length)
    ∷ (nat_lt 0 (length (own_subs wad l)), Missing)
    ∷ (are_among (own_vertices wad l) (own_segs wad l) (own_subs wad l) (own_nodes wad l), Outside)
    ∷ []
    )

-- that refusal, or lack of memory
abbrev pub RefusesTree : List ℕ → LevelEntries → TreeFault → Type 0
RefusesTree wad l e = (e ≡ OutOfMemory) ⊎ (tree_refusal wad l ≡ Some e)
