-- The bytes of a PWAD with levels, and how they read back (docs/FORMAT.md, "Writing").
use Rattle.std.specs.Prelude.{◌≡◌, ◌≢◌, ℕ, ◌+◌, ◌*◌, ◌%◌, ◌<◌, Bool, false, ◌||◌, List, [], ◌∷◌, ◌++◌, length, get_or, take, drop, flat_map, All, None, codes}
use Rattle.std.specs.List.{list_any}
use Rattle.lump_records.specs.Names.{name_text}
use Rattle.lump_records.specs.declared.records.Name8.{Name8}
use Rattle.lump_records.specs.Lumps.{records_of}
use Rattle.lump_records.specs.Records.{thing_record, line_record, side_record, vertex_record, seg_record, sub_record, node_record, sector_record, thing_at, line_at, side_at, vertex_at, seg_at, sub_at, node_at, sector_at}
use Rattle.wad_file.specs.Lumps.{Lump, wad_of, wad_size}
use Rattle.wad_levels.specs.Levels.{Lumps, lump_names, record_sizes, marker_at, refusal}
use Rattle.wad_file.specs.Directory.{lump}
use Rattle.wad_file.specs.Fields.{same_bytes}

-- the PWAD with these lumps
abbrev pub wad_bytes : List Lump → List ℕ
wad_bytes lumps = wad_of (codes "PWAD") lumps

-- ---- levels, one after another

-- a level: its marker's name and the bytes of its ten lumps
pub record Part : Type 0 where
  pub name : Name8
  pub lumps : List (List ℕ)

abbrev pub with_names : List Name8 → List (List ℕ) → List Lump
with_names [] bytes = []
with_names (name ∷ names) [] = []
with_names (name ∷ names) (b ∷ bytes) = record { name = name; bytes = b } ∷ with_names names bytes

-- a level's lumps: the marker, which is empty, and the ten others
abbrev pub lumps_of : Part → List Lump
lumps_of p = record { name = p.name; bytes = [] } ∷ with_names lump_names p.lumps

-- the levels' lumps, one level after another
abbrev pub all_lumps : List Part → List Lump
all_lumps parts = flat_map lumps_of parts

-- the name is that of one of a level's lumps, or of the lump that marks a Hexen level
abbrev pub is_lump_name : List ℕ → Bool
is_lump_name text =
    list_any (λ name. same_bytes (name_text name) text) lump_names
    || same_bytes text (codes "BEHAVIOR")

-- ten lumps of whole records after a marker whose name is not the name of a level's lump
pub record IsPart (p : Part) : Type 0 where
  pub long : length p.name.bytes ≡ 8
  pub free : is_lump_name (name_text p.name) ≡ false
  pub ten : length p.lumps ≡ 10
  pub whole : (n : ℕ) → n < 10 → length (get_or p.lumps n []) % get_or record_sizes n 1 ≡ 0

-- levels of different names that one WAD can hold
pub record AreParts (parts : List Part) : Type 0 where
  pub each : All IsPart parts
  pub differ : (i j : ℕ) (p : Part) → i < length parts → j < length parts → i ≢ j
      → name_text (get_or parts i p).name ≢ name_text (get_or parts j p).name
  pub fits : wad_size (all_lumps parts) < 4294967296

-- the level is found under its name, and its lumps are read
pub record IsReadBack (wad : List ℕ) (p : Part) : Type 0 where
  pub accepted : refusal wad (name_text p.name) ≡ None
  pub lumps : (n : ℕ) → n < 10
      → lump wad (marker_at wad (name_text p.name) + 1 + n) ≡ get_or p.lumps n []

-- the bytes of a level's lumps
abbrev pub level_part : Name8 → Lumps → Part
level_part name l =
    record {
      name = name;
      lumps =
          flat_map thing_record l.things ∷ flat_map line_record l.lines
          ∷ flat_map side_record l.sides
          ∷ flat_map vertex_record l.vertices ∷ flat_map seg_record l.segs
          ∷ flat_map sub_record l.subs
          ∷ flat_map node_record l.nodes ∷ flat_map sector_record l.sectors ∷ l.reject ∷ l.blockmap
          ∷ [];
    }

-- the lumps before the tree; below, those of the tree and those after it
abbrev pub drawn_lumps : Lumps → List Lump
drawn_lumps l =
    with_names (take 4 lump_names)
    (flat_map thing_record l.things ∷ flat_map line_record l.lines ∷ flat_map side_record l.sides
    ∷ flat_map vertex_record l.vertices ∷ [])

abbrev pub tree_lumps : Lumps → List Lump
tree_lumps l =
    with_names (take 3 (drop 4 lump_names))
    (flat_map seg_record l.segs ∷ flat_map sub_record l.subs ∷ flat_map node_record l.nodes ∷ [])

abbrev pub last_lumps : Lumps → List Lump
last_lumps l =
    with_names (drop 7 lump_names) (flat_map sector_record l.sectors ∷ l.reject ∷ l.blockmap ∷ [])

-- each drawn record decodes from its own bytes
pub record IsDrawnCoded (l : Lumps) : Type 0 where
  pub things : records_of thing_at 10 (flat_map thing_record l.things) ≡ l.things
  pub lines : records_of line_at 14 (flat_map line_record l.lines) ≡ l.lines
  pub sides : records_of side_at 30 (flat_map side_record l.sides) ≡ l.sides
  pub vertices : records_of vertex_at 4 (flat_map vertex_record l.vertices) ≡ l.vertices

pub record IsTreeCoded (l : Lumps) : Type 0 where
  pub segs : records_of seg_at 12 (flat_map seg_record l.segs) ≡ l.segs
  pub subs : records_of sub_at 4 (flat_map sub_record l.subs) ≡ l.subs
  pub nodes : records_of node_at 28 (flat_map node_record l.nodes) ≡ l.nodes

pub record IsLastCoded (l : Lumps) : Type 0 where
  pub sectors : records_of sector_at 26 (flat_map sector_record l.sectors) ≡ l.sectors

pub record IsCoded (l : Lumps) : Type 0 where
  pub drawn : IsDrawnCoded l
  pub tree : IsTreeCoded l
  pub last : IsLastCoded l
