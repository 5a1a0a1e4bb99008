-- How long a PWAD will be, by the records of its levels: the sizes of their lumps are known before a byte is
-- written.
use Rattle.std.specs.Prelude.{◌≡◌, ℕ, ◌*◌, List, [], ◌∷◌, length, flat_map}
use Rattle.lump_records.specs.Records.{thing_record, line_record, side_record, vertex_record, seg_record, sub_record, node_record, sector_record}
use Rattle.lump_records.specs.declared.records.Name8.{Name8}
use Rattle.wad_file.specs.Placed.{Placed, sized}
use Rattle.wad_levels.specs.Levels.{Lumps, lump_names}

-- the records of each lump have the bytes of their kind
pub record AreSized (l : Lumps) : Type 0 where
  pub things : length (flat_map thing_record l.things) ≡ 10 * length l.things
  pub lines : length (flat_map line_record l.lines) ≡ 14 * length l.lines
  pub sides : length (flat_map side_record l.sides) ≡ 30 * length l.sides
  pub vertices : length (flat_map vertex_record l.vertices) ≡ 4 * length l.vertices
  pub segs : length (flat_map seg_record l.segs) ≡ 12 * length l.segs
  pub subs : length (flat_map sub_record l.subs) ≡ 4 * length l.subs
  pub nodes : length (flat_map node_record l.nodes) ≡ 28 * length l.nodes
  pub sectors : length (flat_map sector_record l.sectors) ≡ 26 * length l.sectors

-- the bytes of a level's ten lumps behind the marker, by the size of each record
abbrev pub lump_sizes : Lumps → List ℕ
lump_sizes l =
    10 * length l.things ∷ 14 * length l.lines ∷ 30 * length l.sides ∷ 4 * length l.vertices
    ∷ 12 * length l.segs ∷ 4 * length l.subs ∷ 28 * length l.nodes ∷ 26 * length l.sectors
    ∷ length l.reject ∷ length l.blockmap ∷ []

-- lumps of these names and sizes
abbrev pub with_sizes : List Name8 → List ℕ → List Placed
with_sizes [] sizes = []
with_sizes (name ∷ names) [] = []
with_sizes (name ∷ names) (n ∷ sizes) = sized name n ∷ with_sizes names sizes

-- a level's lumps by their sizes: the marker, which is empty, and the ten others
abbrev pub sized_lumps : Name8 → Lumps → List Placed
sized_lumps name l = sized name 0 ∷ with_sizes lump_names (lump_sizes l)
