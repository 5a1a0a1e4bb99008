-- The level that a WAD holds under a name, and what refuses it (docs/FORMAT.md, "WAD files").
use Rattle.std.specs.Prelude.{◌≡◌, ℕ, ◌+◌, ◌*◌, ◌%◌, ◌<◌, ◌≤◌, Bool, true, if◌then◌else◌, not, ◌&&◌, ◌||◌, ◌==◌, nat_lt, List, [], ◌∷◌, Option, None, is_some, codes}
use Rattle.std.specs.Option.{option_or, unwrap_or}
use Rattle.lump_records.specs.Lumps.{records_of}
use Rattle.lump_records.specs.Names.{name_of, name_text}
use Rattle.lump_records.specs.Records.{thing_at, line_at, side_at, vertex_at, seg_at, sub_at, node_at, sector_at}
use Rattle.lump_records.specs.declared.records.Name8.{Name8}
use Rattle.lump_records.specs.declared.records.Thing.{Thing}
use Rattle.lump_records.specs.declared.records.Line.{Line}
use Rattle.lump_records.specs.declared.records.Side.{Side}
use Rattle.lump_records.specs.declared.records.Vertex.{Vertex}
use Rattle.lump_records.specs.declared.records.Sector.{Sector}
use Rattle.lump_records.specs.declared.records.Seg.{Seg}
use Rattle.lump_records.specs.declared.records.Sub.{Sub}
use Rattle.lump_records.specs.declared.records.Node.{Node}
use Rattle.wad_levels.specs.declared.error.ReadError.{ReadError}
use Rattle.wad_levels.specs.declared.error.ReadError.TheVariants.{NoSuchLevel, LumpMissing, HexenLevel, LumpOutside, LumpLength}
use Rattle.wad_file.specs.Directory.{are_inside, entry, entry_has_name, first_failed, last_named, lump, lump_count}
use Rattle.wad_levels.specs.Listing.{listing_refusal}

-- what a level's ten lumps hold
pub record Lumps : Type 0 where
  pub things : List Thing
  pub lines : List Line
  pub sides : List Side
  pub vertices : List Vertex
  pub segs : List Seg
  pub subs : List Sub
  pub nodes : List Node
  pub sectors : List Sector
  pub reject : List ℕ
  pub blockmap : List ℕ

-- the number of the last entry with the name
abbrev pub marker : List ℕ → List ℕ → Option ℕ
marker wad name = last_named wad name (lump_count wad)

-- ---- the ten lumps behind a marker

abbrev pub lump_names : List Name8
lump_names =
    name_of (codes "THINGS") ∷ name_of (codes "LINEDEFS") ∷ name_of (codes "SIDEDEFS")
    ∷ name_of (codes "VERTEXES") ∷ name_of (codes "SEGS") ∷ name_of (codes "SSECTORS")
    ∷ name_of (codes "NODES") ∷ name_of (codes "SECTORS") ∷ name_of (codes "REJECT")
    ∷ name_of (codes "BLOCKMAP") ∷ []

-- the size of a lump's records
abbrev pub record_sizes : List ℕ
record_sizes = 10 ∷ 14 ∷ 30 ∷ 4 ∷ 12 ∷ 4 ∷ 28 ∷ 26 ∷ 1 ∷ 2 ∷ []

-- the entries from k on have these names
abbrev pub are_named : List ℕ → ℕ → List Name8 → Bool
are_named wad k [] = true
are_named wad k (name ∷ more) = entry_has_name wad (name_text name) k && are_named wad (k + 1) more

-- ten entries follow the marker, with the names of a level's lumps
abbrev pub has_lumps : List ℕ → ℕ → Bool
has_lumps wad at = nat_lt (at + 10) (lump_count wad) && are_named wad (at + 1) lump_names

-- the eleventh entry is of a Hexen level
abbrev pub is_hexen : List ℕ → ℕ → Bool
is_hexen wad at =
    nat_lt (at + 11) (lump_count wad) && entry_has_name wad (codes "BEHAVIOR") (at + 11)

-- the lumps from k on are whole records of these sizes
abbrev pub are_whole : List ℕ → ℕ → List ℕ → Bool
are_whole wad k [] = true
are_whole wad k (size ∷ sizes) = (((entry wad k).size % size) == 0) && are_whole wad (k + 1) sizes

-- ---- what refuses a level

-- the marker, or 0 where there is none
abbrev pub marker_at : List ℕ → List ℕ → ℕ
marker_at wad name = unwrap_or (marker wad name) 0

-- the first refusal that holds
abbrev pub refusal : List ℕ → List ℕ → Option ReadError
refusal wad name =
    let at = marker_at wad name in
    option_or (listing_refusal wad)
    (first_failed
    ((is_some (marker wad name), NoSuchLevel)
    ∷ (has_lumps wad at, LumpMissing)
    ∷ (not (is_hexen wad at), HexenLevel)
    ∷ (are_inside wad (at + 1) 10, LumpOutside)
    ∷ (are_whole wad (at + 1) record_sizes, LumpLength)
    ∷ []
    ))

-- what the ten lumps behind a marker hold
abbrev pub lumps_behind : List ℕ → ℕ → Lumps
lumps_behind wad at =
    record {
      things = records_of thing_at 10 (lump wad (at + 1 + 0));
      lines = records_of line_at 14 (lump wad (at + 1 + 1));
      sides = records_of side_at 30 (lump wad (at + 1 + 2));
      vertices = records_of vertex_at 4 (lump wad (at + 1 + 3));
      segs = records_of seg_at 12 (lump wad (at + 1 + 4));
      subs = records_of sub_at 4 (lump wad (at + 1 + 5));
      nodes = records_of node_at 28 (lump wad (at + 1 + 6));
      sectors = records_of sector_at 26 (lump wad (at + 1 + 7));
      reject = lump wad (at + 1 + 8);
      blockmap = lump wad (at + 1 + 9);
    }

-- ten lumps behind the marker stand in the file
pub record IsWhole (wad : List ℕ) (at : ℕ) : Type 0 where
  pub among : at + 10 < lump_count wad
  pub inside : are_inside wad (at + 1) 10 ≡ true

-- the WAD holds this level under the name
pub record IsLevel (wad name : List ℕ) (level : Lumps) : Type 0 where
  pub accepted : refusal wad name ≡ None
  pub holds : level ≡ lumps_behind wad (marker_at wad name)
