-- The numbers that are wanted beside the items of a picture, and the places where each may be.
use Rattle.std.specs.Prelude.{ℕ, ◌+◌, ◌*◌, ◌/◌, nat_lt, Bool, ◌&&◌, ◌==◌, if◌then◌else◌, List, [], ◌∷◌, ◌++◌, flat_map, fold, slice_get, Option, ℤ, pos, neg_ℤ, ◌+ℤ◌, int_le}
use Rattle.std.specs.List.{range_with_len}
use Rattle.std.specs.Option.{option_map, option_map_or}
use Rattle.lump_records.specs.Things.{thing_place}
use Rattle.lump_records.specs.declared.records.Line.{Line}
use Rattle.lump_records.specs.declared.records.Thing.{Thing}
use Rattle.lump_records.specs.declared.records.Vertex.{Vertex}
use Rattle.map_tables.specs.Tables.{Tables, count_of}
use Rattle.map_tables.specs.WellFormed.{nth_vertex}
use Rattle.map_tables.specs.declared.kind.Kind.{Kind}
use Rattle.map_tables.specs.declared.kind.Kind.TheVariants as kind
use Rattle.map_svg.specs.Places.{shift_right, spot_of}
use Rattle.map_svg.specs.declared.places.Shift.{Shift}
use Rattle.map_svg.specs.declared.places.Spot.{Spot}
use Rattle.map_picture.specs.Items.{sector_of}
use Rattle.map_picture.specs.Numbers.{line_middle, longest_line}
use Rattle.map_picture.specs.declared.labels.Label.{Label}
use Rattle.map_picture.specs.declared.labels.Numbered.{Numbered}
use Rattle.map_picture.specs.declared.labels.Numbered.TheVariants as of
use Rattle.map_picture.specs.declared.view.View.{View}

-- the table of what is numbered
abbrev pub numbered_kind : Numbered → Kind
numbered_kind of.Sector = kind.Sector
numbered_kind of.Line = kind.Line
numbered_kind of.Vertex = kind.Vertex
numbered_kind of.Thing = kind.Thing

-- the vector by so much to the right and downwards
abbrev pub shift_by : ℤ → ℤ → Shift
shift_by x y = record { dx = x; dy = y }

-- the vectors to the four corners round a place, the upper right one first
abbrev pub corners_round : ℕ → List Shift
corners_round away =
    shift_by (pos away) (neg_ℤ (pos away)) ∷ shift_by (neg_ℤ (pos away)) (neg_ℤ (pos away))
    ∷ shift_by (pos away) (pos away) ∷ shift_by (neg_ℤ (pos away)) (pos away) ∷ []

-- beside a line: as far on its left as the tick goes to the right, on its right beyond the tick, and both farther off
abbrev pub beside_line : Vertex → Vertex → ℕ → List Shift
beside_line from to step =
    shift_right to from step ∷ shift_right from to (2 * step) ∷ shift_right to from (2 * step)
    ∷ shift_right from to (3 * step) ∷ []

-- on the right of a line: so far, then nearer by a third, then farther by one and by two
abbrev pub inside_line : Vertex → Vertex → ℕ → List Shift
inside_line from to far =
    shift_right from to far ∷ shift_right from to (2 * far / 3)
    ∷ shift_right from to (4 * far / 3) ∷ shift_right from to (5 * far / 3) ∷ []

-- how far a sector's number is from its line: as the tick goes, and the height of the number more
abbrev pub how_far : ℕ → ℕ → ℕ
how_far step size = step + 3 * size / 2

-- the vectors from a line's middle into a sector that it has on a side
abbrev pub places_inside : Tables → ℕ → ℕ → Line → List Shift
places_inside m far s l =
    let from = nth_vertex m.vertices l.v1 in
    let to = nth_vertex m.vertices l.v2 in
    if sector_of m l.right == s then inside_line from to far else inside_line to from far

-- a sector's number, inside it beside one of its lines
abbrev pub sector_label : Tables → ℕ → ℕ → Line → Label
sector_label m far n l =
    record {
      item = of.Sector;
      n = n;
      place = line_middle m l;
      shifts = places_inside m far n l;
    }

-- a line's number, beside its middle
abbrev pub line_label : Tables → ℕ → ℕ → Line → Label
line_label m step n l =
    record {
      item = of.Line;
      n = n;
      place = line_middle m l;
      shifts = beside_line (nth_vertex m.vertices l.v1) (nth_vertex m.vertices l.v2) step;
    }

-- a vertex's number, at a corner round it
abbrev pub vertex_label : ℕ → ℕ → Vertex → Label
vertex_label step n v =
    record { item = of.Vertex; n = n; place = spot_of v; shifts = corners_round step }

-- a thing's number, at a corner round its mark
abbrev pub thing_label : ℕ → ℕ → Thing → Label
thing_label step n t =
    record {
      item = of.Thing;
      n = n;
      place = spot_of (thing_place t);
      shifts = corners_round (step + 16);
    }

-- the number of an item; a sector's is beside the longest of its lines, and one without lines has none
abbrev pub label_of : Tables → ℕ → ℕ → Numbered → ℕ → Option Label
label_of m step size of.Sector n =
    option_map (sector_label m (how_far step size) n) (longest_line m n)
label_of m step size of.Line n = option_map (line_label m step n) (slice_get m.lines n)
label_of m step size of.Vertex n = option_map (vertex_label step n) (slice_get m.vertices n)
label_of m step size of.Thing n = option_map (thing_label step n) (slice_get m.things n)

-- the place is on the page, from left to right
abbrev pub is_across_page : View → Spot → Bool
is_across_page v p = int_le v.left p.x && int_le p.x (v.left +ℤ pos v.width)

-- the same from top to bottom
abbrev pub is_down_page : View → Spot → Bool
is_down_page v p = int_le v.top p.y && int_le p.y (v.top +ℤ pos v.height)

-- the page shows the place
abbrev pub is_on_page : View → Spot → Bool
is_on_page v p = is_across_page v p && is_down_page v p

-- how many vertices the page shows, with one more vertex
abbrev pub shown_with : View → ℕ → Vertex → ℕ
shown_with v count p = if is_on_page v (spot_of p) then count + 1 else count

-- how many vertices the page shows
abbrev pub shown_count : Tables → View → ℕ
shown_count m v = fold (shown_with v) 0 m.vertices

-- the size of text beside so many vertices: 7/5 of the tick's length, the whole of it from 64 on, a half from 256 on
abbrev pub size_beside : ℕ → ℕ → ℕ
size_beside step count =
    if nat_lt count 64 then 7 * step / 5 else if nat_lt count 256 then step else step / 2

-- the size of the numbers' text, by how many vertices the page shows
abbrev pub number_size : Tables → View → ℕ
number_size m v = size_beside v.step (shown_count m v)

-- the number, if there is one and the page shows the place beside which it is
abbrev pub on_page : View → Option Label → List Label
on_page v label = option_map_or (λ l. if is_on_page v l.place then l ∷ [] else []) label []

-- the numbers of a table that are wanted on the page, in the order of the items
abbrev pub labels_of : Tables → View → Numbered → List Label
labels_of m v item =
    flat_map (λ n. on_page v (label_of m v.step (number_size m v) item n))
    (range_with_len 0 (count_of m (numbered_kind item)))

-- all of them, by their importance: sectors, lines, vertices, things
abbrev pub all_labels : Tables → View → List Label
all_labels m v =
    labels_of m v of.Sector ++ labels_of m v of.Line ++ labels_of m v of.Vertex
    ++ labels_of m v of.Thing
