-- The bytes of a tree's lists, and of REJECT.
use Rattle.std.specs.Prelude.{◌≡◌, ℕ, List, flat_map}
use Rattle.std.specs.Option.{option_map_or}
use Rattle.lump_records.specs.Lumps.{records_of}
use Rattle.lump_records.specs.Records.{vertex_at, seg_at, sub_at, node_at, vertex_record, seg_record, sub_record, node_record}
use Rattle.tree_nodes.specs.declared.built.Built.{Built}
use Rattle.wad_rebuild.specs.declared.made.MadeLumps.{MadeLumps}

-- the bytes of REJECT: those that were made, or else the level's own
abbrev pub reject_of : List ℕ → MadeLumps → List ℕ
reject_of own m = option_map_or (λ v. v.items) m.reject own

-- the lumps are the bytes of the tree's lists, and hold them
pub record HasRecords (b : Built) (m : MadeLumps) : Type 0 where
  pub vertex_bytes : m.vertices.items ≡ flat_map vertex_record b.vertices.items
  pub seg_bytes : m.segs.items ≡ flat_map seg_record b.segs.items
  pub sub_bytes : m.subs.items ≡ flat_map sub_record b.subs.items
  pub node_bytes : m.nodes.items ≡ flat_map node_record b.nodes.items
  pub vertices : records_of vertex_at 4 m.vertices.items ≡ b.vertices.items
  pub segs : records_of seg_at 12 m.segs.items ≡ b.segs.items
  pub subs : records_of sub_at 4 m.subs.items ≡ b.subs.items
  pub nodes : records_of node_at 28 m.nodes.items ≡ b.nodes.items
