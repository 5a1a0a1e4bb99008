-- The part of the plane that the picture shows: all vertices and things, and a margin of 64.
use Rattle.std.specs.Prelude.{ℕ, ◌+◌, ◌/◌, max, fold, Option, Some, None, ℤ, pos, neg_ℤ, ◌-ℤ◌, unsigned_abs}
use Rattle.std.specs.Int.{int_max, int_min}
use Rattle.lump_records.specs.declared.records.Bounds.{Bounds}
use Rattle.lump_records.specs.declared.records.Vertex.{Vertex}
use Rattle.lump_records.specs.declared.records.Thing.{Thing}
use Rattle.lump_records.specs.Things.{thing_place}
use Rattle.map_tables.specs.Tables.{Tables}
use Rattle.map_svg.specs.Boxes.{box_round}
use Rattle.map_picture.specs.declared.view.View.{View}

-- the box round a single place
abbrev pub box_at : Vertex → Bounds
box_at p = record { top = p.y; bottom = p.y; left = p.x; right = p.x }

-- the least box round a box and a place
abbrev pub box_with : Bounds → Vertex → Bounds
box_with b p = box_round b (box_at p)

-- the least box round a box, if there is one, and a place
abbrev pub grown : Option Bounds → Vertex → Option Bounds
grown None p = Some (box_at p)
grown (Some b) p = Some (box_with b p)

-- the least box round a box, if there is one, and a thing
abbrev pub grown_by : Option Bounds → Thing → Option Bounds
grown_by b t = grown b (thing_place t)

-- the least box round the vertices
abbrev pub box_of_vertices : Tables → Option Bounds
box_of_vertices m = fold grown None m.vertices

-- the least box round the vertices and the things
abbrev pub picture_box : Tables → Option Bounds
picture_box m = fold grown_by (box_of_vertices m) m.things

-- the length of a side of a box on the picture, with the margins
abbrev pub picture_side : ℤ → ℤ → ℕ
picture_side low high = unsigned_abs (high -ℤ low) + 128

-- the length of the ticks on a page of this size: a 96th of the longer side, rounded down, and at least 8
abbrev pub step_of : ℕ → ℕ → ℕ
step_of width height = max (max width height / 96) 8

-- the view of a box
abbrev pub view_of_box : Bounds → View
view_of_box b =
    let width = picture_side b.left b.right in
    let height = picture_side b.bottom b.top in
    record {
      left = b.left -ℤ pos 64;
      top = neg_ℤ b.top -ℤ pos 64;
      width = width;
      height = height;
      step = step_of width height;
    }

-- the view of a box, or of the box round (0,0) if there is none
abbrev pub view_round : Option Bounds → View
view_round (Some b) = view_of_box b
view_round None = view_of_box (box_at (record { x = pos 0; y = pos 0 }))

-- what the picture of the whole map shows
abbrev pub whole_view : Tables → View
whole_view m = view_round (picture_box m)

-- the distance between two coordinates
abbrev pub distance : ℤ → ℤ → ℕ
distance a b = unsigned_abs (b -ℤ a)

-- the view of a box without a margin; its edges may be in any order
abbrev pub view_within : Bounds → View
view_within b =
    let width = distance b.left b.right in
    let height = distance b.bottom b.top in
    record {
      left = int_min b.left b.right;
      top = neg_ℤ (int_max b.top b.bottom);
      width = width;
      height = height;
      step = step_of width height;
    }

-- what the picture shows: the box that is asked for, or the whole map
abbrev pub view_of : Option Bounds → Tables → View
view_of (Some b) m = view_within b
view_of None m = whole_view m
