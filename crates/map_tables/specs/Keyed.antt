-- Lines and sides as a map stores them, with keys, and the lines and sides with numbers that they represent.
use Rattle.std.specs.Prelude.{◌≢◌, ℕ, ◌<◌, Bool, false, ◌==◌, ◌&&◌, List, [], Option, Some, None}
use Rattle.lump_records.specs.declared.records.Line.{Line}
use Rattle.lump_records.specs.declared.records.Side.{Side}
use Rattle.lump_records.specs.declared.records.Vertex.{Vertex}
use Rattle.lump_records.specs.Sides.{no_side}
use Rattle.map_tables.specs.declared.map.keyed_line.KeyedLine.{KeyedLine}
use Rattle.map_tables.specs.declared.map.keyed_side.KeyedSide.{KeyedSide}
use Rattle.map_tables.specs.Faults.{uses_vertex, is_too_long}
use Rattle.map_tables.specs.Keys.{rank_of}

-- the number of a line's left side, or `no_side`
abbrev pub left_of : List ℕ → Option ℕ → ℕ
left_of sides None = no_side
left_of sides (Some key) = rank_of sides key

-- the line with numbers, given the keys of the vertices and of the sides in order
abbrev pub line_of : List ℕ → List ℕ → KeyedLine → Line
line_of vertices sides l =
    record {
      v1 = rank_of vertices l.v1;
      v2 = rank_of vertices l.v2;
      flags = l.flags;
      special = l.special;
      tag = l.tag;
      right = rank_of sides l.right;
      left = left_of sides l.left;
    }

-- the side with a number, given the keys of the sectors in order
abbrev pub side_of : List ℕ → KeyedSide → Side
side_of sectors s =
    record {
      x_offset = s.x_offset;
      y_offset = s.y_offset;
      upper = s.upper;
      lower = s.lower;
      middle = s.middle;
      sector = rank_of sectors s.sector;
    }

-- the line's ends and sides are among the first `vertices` vertices and the first `sides` sides
pub record IsFound (vertices sides : ℕ) (l : Line) : Type 0 where
  pub v1 : l.v1 < vertices
  pub v2 : l.v2 < vertices
  pub right : l.right < sides
  pub left : l.left ≢ no_side → l.left < sides

-- there is a left side, and it has the key
abbrev pub is_left : Option ℕ → ℕ → Bool
is_left None key = false
is_left (Some left) key = left == key

-- the line has the vertex as an end, and is too long with the vertices at these places
abbrev pub stretches : List ℕ → List Vertex → ℕ → KeyedLine → Bool
stretches keys vertices n l = uses_vertex n (line_of keys [] l)
    && is_too_long vertices (line_of keys [] l)
