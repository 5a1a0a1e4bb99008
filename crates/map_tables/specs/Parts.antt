-- A map's part of a body: its name, the counts of its tables, and the tables.
use Rattle.std.specs.Prelude.{◌≡◌, ◌≢◌, ℕ, ◌+◌, ◌*◌, ◌≤◌, List, ◌++◌, length, flat_map, take, drop}
use Rattle.lump_records.specs.Fields.{unsigned, unsigned_at}
use Rattle.lump_records.specs.Lumps.{records_of}
use Rattle.lump_records.specs.Records.{thing_record, line_record, side_record, vertex_record, sector_record, thing_at, line_at, side_at, vertex_at, sector_at, name_at}
use Rattle.map_tables.specs.declared.error.MapError.{MapError}
use Rattle.map_tables.specs.declared.error.MapError.TheVariants.{OutOfMemory, Damaged}
use Rattle.map_tables.specs.Tables.{Tables, part_len}
use Rattle.map_tables.specs.WellFormed.{WellFormed}

-- the name, and the counts of things, lines, sides, vertices and sectors
abbrev pub part_head : Tables → List ℕ
part_head m =
    m.name.bytes ++ unsigned (length m.things) ++ unsigned (length m.lines)
    ++ unsigned (length m.sides)
    ++ unsigned (length m.vertices) ++ unsigned (length m.sectors)

-- the head, and these tables in that order
abbrev pub part : Tables → List ℕ
part m =
    part_head m ++ flat_map thing_record m.things ++ flat_map line_record m.lines
    ++ flat_map side_record m.sides
    ++ flat_map vertex_record m.vertices ++ flat_map sector_record m.sectors

-- the bytes begin with no well-formed map's part
abbrev pub NoPartBegins : List ℕ → Type 0
NoPartBegins bytes = (m : Tables) (rest : List ℕ) → WellFormed m → part m ++ rest ≢ bytes

-- the map is well-formed, and the bytes begin with its part
pub record BeginsWith (bytes : List ℕ) (m : Tables) : Type 0 where
  pub well_formed : WellFormed m
  pub encoded : part m ++ drop (part_len m) bytes ≡ bytes

-- a reader fails with `Damaged` at place 0 for this reason, or memory runs out
abbrev pub RefusesFor : Type 0 → MapError → Type 0
RefusesFor reason OutOfMemory = Unit {0}
RefusesFor reason (Damaged place) = (place ≡ 0) × reason
RefusesFor reason _ = ⊥

-- reading a part fails because the bytes begin with no well-formed map's part, or memory runs out
abbrev pub RefusesPart : List ℕ → MapError → Type 0
RefusesPart bytes = RefusesFor (NoPartBegins bytes)

-- ---- What the bytes hold, whether it is a map's part or not

-- the bytes have a head, and are at least as long as its counts say
pub record IsFramed (bytes : List ℕ) : Type 0 where
  pub long : 18 ≤ length bytes
  pub whole : 18 + 10 * unsigned_at 8 bytes + 14 * unsigned_at 10 bytes + 30 * unsigned_at 12 bytes
      + 4 * unsigned_at 14 bytes + 26 * unsigned_at 16 bytes ≤ length bytes

-- the bytes after the head
abbrev pub behind_head : List ℕ → List ℕ
behind_head bytes = drop 18 bytes

-- the bytes after the things
abbrev pub behind_things : List ℕ → List ℕ
behind_things bytes = drop (10 * unsigned_at 8 bytes) (behind_head bytes)

-- the bytes after the lines
abbrev pub behind_lines : List ℕ → List ℕ
behind_lines bytes = drop (14 * unsigned_at 10 bytes) (behind_things bytes)

-- the bytes after the sides
abbrev pub behind_sides : List ℕ → List ℕ
behind_sides bytes = drop (30 * unsigned_at 12 bytes) (behind_lines bytes)

-- the bytes after the vertices
abbrev pub behind_vertices : List ℕ → List ℕ
behind_vertices bytes = drop (4 * unsigned_at 14 bytes) (behind_sides bytes)

-- the bytes after the sectors
abbrev pub behind_sectors : List ℕ → List ℕ
behind_sectors bytes = drop (26 * unsigned_at 16 bytes) (behind_vertices bytes)

-- the name and the tables that framed bytes hold
abbrev pub tables_in : List ℕ → Tables
tables_in bytes =
    record {
      name = name_at 0 bytes;
      vertices = records_of vertex_at 4 (take (4 * unsigned_at 14 bytes) (behind_sides bytes));
      sectors = records_of sector_at 26 (take (26 * unsigned_at 16 bytes) (behind_vertices bytes));
      sides = records_of side_at 30 (take (30 * unsigned_at 12 bytes) (behind_lines bytes));
      lines = records_of line_at 14 (take (14 * unsigned_at 10 bytes) (behind_things bytes));
      things = records_of thing_at 10 (take (10 * unsigned_at 8 bytes) (behind_head bytes));
    }
