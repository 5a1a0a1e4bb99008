-- The bytes of each record of a level's lumps, its fields in order, and the record that bytes hold
-- (docs/FORMAT.md, "Records").
use Rattle.std.specs.Prelude.{ℕ, List, ◌++◌, ◌+◌, take, drop}
use Rattle.lump_records.specs.Fields.{unsigned, signed, unsigned_at, signed_at}
use Rattle.lump_records.specs.declared.records.Name8.{Name8}
use Rattle.lump_records.specs.declared.records.Thing.{Thing}
use Rattle.lump_records.specs.declared.records.Line.{Line}
use Rattle.lump_records.specs.declared.records.Side.{Side}
use Rattle.lump_records.specs.declared.records.Vertex.{Vertex}
use Rattle.lump_records.specs.declared.records.Sector.{Sector}
use Rattle.lump_records.specs.declared.records.Seg.{Seg}
use Rattle.lump_records.specs.declared.records.Sub.{Sub}
use Rattle.lump_records.specs.declared.records.Bounds.{Bounds}
use Rattle.lump_records.specs.declared.records.Node.{Node}

-- a thing of THINGS: x, y, angle, kind, options
abbrev pub thing_record : Thing → List ℕ
thing_record t = signed t.x ++ signed t.y ++ signed t.angle ++ signed t.kind ++ signed t.options

-- a line of LINEDEFS: its vertices, flags, special, tag, right and left side
abbrev pub line_record : Line → List ℕ
line_record l =
    unsigned l.v1 ++ unsigned l.v2 ++ unsigned l.flags ++ unsigned l.special ++ unsigned l.tag
    ++ unsigned l.right
    ++ unsigned l.left

-- a side of SIDEDEFS: its offsets, the upper, lower and middle texture, the sector
abbrev pub side_record : Side → List ℕ
side_record s =
    signed s.x_offset ++ signed s.y_offset ++ s.upper.bytes ++ s.lower.bytes ++ s.middle.bytes
    ++ unsigned s.sector

-- a vertex of VERTEXES: x, y
abbrev pub vertex_record : Vertex → List ℕ
vertex_record v = signed v.x ++ signed v.y

-- a sector of SECTORS: floor, ceiling, their flats, light, special, tag
abbrev pub sector_record : Sector → List ℕ
sector_record s =
    signed s.floor ++ signed s.ceiling ++ s.floor_name.bytes ++ s.ceiling_name.bytes
    ++ signed s.light
    ++ signed s.special ++ signed s.tag

-- a seg of SEGS: its first and second vertex, angle, line, side, offset
abbrev pub seg_record : Seg → List ℕ
seg_record s =
    unsigned s.first ++ unsigned s.second ++ unsigned s.angle ++ unsigned s.line ++ unsigned s.side
    ++ unsigned s.offset

-- a subsector of SSECTORS: how many segs it has, and its first
abbrev pub sub_record : Sub → List ℕ
sub_record s = unsigned s.count ++ unsigned s.first

-- a box: top, bottom, left, right
abbrev pub bounds_record : Bounds → List ℕ
bounds_record b = signed b.top ++ signed b.bottom ++ signed b.left ++ signed b.right

-- a node of NODES: x, y, dx, dy, the right and the left box, the right and the left child
abbrev pub node_record : Node → List ℕ
node_record n =
    signed n.x ++ signed n.y ++ signed n.dx ++ signed n.dy ++ bounds_record n.right_box
    ++ bounds_record n.left_box
    ++ unsigned n.right ++ unsigned n.left

-- ---- decoding: the record that the bytes hold

-- the name in the eight bytes at place i
abbrev pub name_at : ℕ → List ℕ → Name8
name_at i bytes = record { bytes = take 8 (drop i bytes) }

-- the vertex that its bytes hold
abbrev pub vertex_at : List ℕ → Vertex
vertex_at bytes = record { x = signed_at 0 bytes; y = signed_at 2 bytes }

-- the side that its bytes hold
abbrev pub side_at : List ℕ → Side
side_at bytes =
    record {
      x_offset = signed_at 0 bytes;
      y_offset = signed_at 2 bytes;
      upper = name_at 4 bytes;
      lower = name_at 12 bytes;
      middle = name_at 20 bytes;
      sector = unsigned_at 28 bytes;
    }

-- the line that its bytes hold
abbrev pub line_at : List ℕ → Line
line_at bytes =
    record {
      v1 = unsigned_at 0 bytes;
      v2 = unsigned_at 2 bytes;
      flags = unsigned_at 4 bytes;
      special = unsigned_at 6 bytes;
      tag = unsigned_at 8 bytes;
      right = unsigned_at 10 bytes;
      left = unsigned_at 12 bytes;
    }

-- the thing that its bytes hold
abbrev pub thing_at : List ℕ → Thing
thing_at bytes =
    record {
      x = signed_at 0 bytes;
      y = signed_at 2 bytes;
      angle = signed_at 4 bytes;
      kind = signed_at 6 bytes;
      options = signed_at 8 bytes;
    }

-- the sector that its bytes hold
abbrev pub sector_at : List ℕ → Sector
sector_at bytes =
    record {
      floor = signed_at 0 bytes;
      ceiling = signed_at 2 bytes;
      floor_name = name_at 4 bytes;
      ceiling_name = name_at 12 bytes;
      light = signed_at 20 bytes;
      special = signed_at 22 bytes;
      tag = signed_at 24 bytes;
    }

-- the seg that its bytes hold
abbrev pub seg_at : List ℕ → Seg
seg_at bytes =
    record {
      first = unsigned_at 0 bytes;
      second = unsigned_at 2 bytes;
      angle = unsigned_at 4 bytes;
      line = unsigned_at 6 bytes;
      side = unsigned_at 8 bytes;
      offset = unsigned_at 10 bytes;
    }

-- the subsector that its bytes hold
abbrev pub sub_at : List ℕ → Sub
sub_at bytes = record { count = unsigned_at 0 bytes; first = unsigned_at 2 bytes }

-- the box in the eight bytes at place i
abbrev pub bounds_at : ℕ → List ℕ → Bounds
bounds_at i bytes =
    record {
      top = signed_at i bytes;
      bottom = signed_at (i + 2) bytes;
      left = signed_at (i + 4) bytes;
      right = signed_at (i + 6) bytes;
    }

-- the node that its bytes hold
abbrev pub node_at : List ℕ → Node
node_at bytes =
    record {
      x = signed_at 0 bytes;
      y = signed_at 2 bytes;
      dx = signed_at 4 bytes;
      dy = signed_at 6 bytes;
      right_box = bounds_at 8 bytes;
      left_box = bounds_at 16 bytes;
      right = unsigned_at 24 bytes;
      left = unsigned_at 26 bytes;
    }
