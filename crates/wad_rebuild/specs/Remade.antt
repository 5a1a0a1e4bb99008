-- A level that was built anew of its own lines, and why one is left as it was.
use Rattle.std.specs.Prelude.{◌≡◌, ◌≢◌, ℕ, ◌+◌, ◌%◌, ◌<◌, ◌≤◌, if◌then◌else◌, nat_lt, nat_le, List, length, take, fold, Some, None}
use Rattle.lump_records.specs.Lumps.{records_of}
use Rattle.lump_records.specs.Records.{vertex_at, seg_at, sub_at, node_at}
use Rattle.lump_records.specs.declared.records.Line.{Line}
use Rattle.lump_records.specs.declared.records.Vertex.{Vertex}
use Rattle.tree_pieces.specs.Edges.{edges_in}
use Rattle.tree_pieces.specs.declared.edge.Edge.{Edge}
use Rattle.tree_nodes.specs.Built.{IsBuiltOver, IsRefusalOver}
use Rattle.tree_nodes.specs.declared.built.Built.{Built}
use Rattle.tree_nodes.specs.declared.error.TreeError.TheVariants as tree
use Rattle.tree_blocks.specs.Blocks.{ends_over}
use Rattle.tree_blocks.specs.Lump.{IsBlockmapOver, RefusesBlockmapOver}
use Rattle.tree_blocks.specs.declared.error.BlockmapError.TheVariants as blockmap
use Rattle.tree_blocks.specs.declared.line_ends.LineEnds.{LineEnds}
use Rattle.wad_levels.specs.Drawn.{DrawnLists, drawn_lists, hindrance}
use Rattle.wad_levels.specs.Levels.{Lumps}
use Rattle.wad_levels.specs.declared.entries.LevelEntries.{LevelEntries}
use Rattle.wad_build.specs.Reject.{reject_size}
use Rattle.wad_build.specs.Sound.{HasTree, IsSoundOver, no_rejects}
use Rattle.wad_rebuild.specs.Kept.{kept_faults}
use Rattle.wad_rebuild.specs.Made.{HasRecords, reject_of}
use Rattle.wad_rebuild.specs.declared.made.MadeLumps.{MadeLumps}
use Rattle.wad_rebuild.specs.declared.cause.Cause.{Cause}
use Rattle.wad_rebuild.specs.declared.cause.Cause.TheVariants.{Hindered, TooManySectors, NoTree, NoBlockmap, OutOfMemory}

-- so many vertices, or as many as a vertex of this number needs
abbrev pub with_number : ℕ → ℕ → ℕ
with_number count n = if nat_lt n count then count else (n + 1)

-- how many vertices the lines need: one more than the greatest number that they name
abbrev pub used_count : List Line → ℕ
used_count lines = fold (λ count x. with_number (with_number count x.v1) x.v2) 0 lines

-- the vertices up to the last that a line uses
abbrev pub used_front : DrawnLists → List Vertex
used_front d = take (used_count d.lines) d.vertices

-- REJECT: the given bytes where they are enough for so many sectors, else none out of sight
abbrev pub reject_over : ℕ → List ℕ → List ℕ
reject_over sectors given =
    if nat_le (reject_size sectors) (length given) then given else no_rejects sectors

-- the lines over these vertices
abbrev pub front_edges : DrawnLists → List Edge
front_edges d = edges_in (used_front d) d.lines

abbrev pub front_ends : DrawnLists → List LineEnds
front_ends d = ends_over (used_front d) d.lines

-- the level with what was drawn, and what the lumps that were made hold
abbrev pub remade_level : DrawnLists → MadeLumps → Lumps
remade_level d m =
    record {
      things = d.things;
      lines = d.lines;
      sides = d.sides;
      vertices = records_of vertex_at 4 m.vertices.items;
      segs = records_of seg_at 12 m.segs.items;
      subs = records_of sub_at 4 m.subs.items;
      nodes = records_of node_at 28 m.nodes.items;
      sectors = d.sectors;
      reject = reject_of d.reject m;
      blockmap = m.blockmap.items;
    }

-- the lumps are whole records
pub record AreWholeLumps (m : MadeLumps) : Type 0 where
  pub vertices : length m.vertices.items % 4 ≡ 0
  pub segs : length m.segs.items % 12 ≡ 0
  pub subs : length m.subs.items % 4 ≡ 0
  pub nodes : length m.nodes.items % 28 ≡ 0
  pub blockmap : length m.blockmap.items % 2 ≡ 0

-- the lumps are the bytes of a tree that is built of the level's lines, behind the vertices that they
-- use, and of the blockmap of these lines, and so make the level sound; beside them stand the faults of
-- these lines that stay
pub record IsMadeAnew (d : DrawnLists) (m : MadeLumps) : Type 0 where
  pub tree : Built
  pub built : IsBuiltOver (front_edges d) (used_front d) tree
  pub records : HasRecords tree m
  pub lists : HasTree tree (remade_level d m)
  pub blocks : IsBlockmapOver (front_ends d) m.blockmap.items
  pub sound : IsSoundOver (used_front d) (remade_level d m)
  pub reject : reject_of d.reject m ≡ reject_over (length d.sectors) d.reject
  pub whole : AreWholeLumps m
  pub kept : m.kept.items ≡ kept_faults d.lines

-- a tree is built over its lines
abbrev pub HasFrontTree : DrawnLists → Type 0
HasFrontTree d = (b : Built) × IsBuiltOver (front_edges d) (used_front d) b

-- why none are made of a level that nothing hinders: it has too many sectors; or else what its tree
-- is refused for; or else, where it has a tree, what its blockmap is refused for
abbrev pub IsUnmade : DrawnLists → Cause → Type 0
IsUnmade d (Hindered h) = ⊥
IsUnmade d TooManySectors = 32767 < length d.sectors
IsUnmade d (NoTree e) =
    (length d.sectors ≤ 32767) × (e ≢ tree.OutOfMemory)
    × IsRefusalOver (front_edges d) (used_front d) e
IsUnmade d (NoBlockmap e) =
    (length d.sectors ≤ 32767) × HasFrontTree d × (e ≢ blockmap.OutOfMemory)
    × RefusesBlockmapOver (front_ends d) e
IsUnmade d OutOfMemory = Unit {0}

-- the lumps are made of what was drawn of the level, which nothing hinders
pub record IsRemade (wad : List ℕ) (l : LevelEntries) (m : MadeLumps) : Type 0 where
  pub unhindered : hindrance wad l ≡ None
  pub made : IsMadeAnew (drawn_lists wad l) m

-- the cause is the first one that hinders a build, or where none does, that of the build
abbrev pub IsLeftFor : List ℕ → LevelEntries → Cause → Type 0
IsLeftFor wad l (Hindered h) = hindrance wad l ≡ Some h
IsLeftFor wad l OutOfMemory = Unit {0}
IsLeftFor wad l cause = (hindrance wad l ≡ None) × IsUnmade (drawn_lists wad l) cause
