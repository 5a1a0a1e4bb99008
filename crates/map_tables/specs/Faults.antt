-- Why each edit of a map is refused: each code with its test, by rising code.
use Rattle.std.specs.Prelude.{ℕ, ◌+◌, Bool, ◌&&◌, ◌||◌, ◌==◌, not, nat_lt, List, [], ◌∷◌, ◌++◌, length, slice_set}
use Rattle.std.specs.Ordering.{int_eq}
use Rattle.std.specs.List.{list_any, enumerate_from}
use Rattle.lump_records.specs.declared.records.Line.{Line}
use Rattle.lump_records.specs.declared.records.Side.{Side}
use Rattle.lump_records.specs.declared.records.Vertex.{Vertex}
use Rattle.lump_records.specs.Drawing.{squared_distance, longest_squared}
use Rattle.lump_records.specs.Limits.{item_limit, sector_limit}
pub use Rattle.lump_records.specs.Sides.{has_left, is_two_sided}
use Rattle.map_tables.specs.declared.error.MapError.TheVariants.{NoVertex, NoSector, NoSide, NoLine, NoThing, InUse, SameEnds, PlaceTaken, TwoSidedWithoutLeft, TableFull, LineTooLong}
use Rattle.map_tables.specs.Errors.{code_of}
use Rattle.map_tables.specs.Tables.{Tables}
use Rattle.map_tables.specs.WellFormed.{nth_vertex}

-- ---- Tests

-- there is no item with this number
abbrev pub lacks : {X : Type 0} → List X → ℕ → Bool
lacks xs n = not (nat_lt n (length xs))

-- a table of vertices, sides, lines or things has no room for n more
abbrev pub lacks_room : {X : Type 0} → List X → ℕ → Bool
lacks_room xs n = nat_lt item_limit (length xs + n)

-- the table of sectors has no room for n more
abbrev pub lacks_sector_room : {X : Type 0} → List X → ℕ → Bool
lacks_sector_room xs n = nat_lt sector_limit (length xs + n)

-- the two are at the same place
abbrev pub is_place : Vertex → Vertex → Bool
is_place v w = int_eq w.x v.x && int_eq w.y v.y

-- a vertex is at the place
abbrev pub is_taken : List Vertex → Vertex → Bool
is_taken vs v = list_any (is_place v) vs

-- a vertex other than number n is at the place
abbrev pub is_taken_beside : List Vertex → ℕ → Vertex → Bool
is_taken_beside vs n v = list_any (λ w. not (w.0 == n) && is_place v w.1) (enumerate_from 0 vs)

-- the line begins or ends at the vertex
abbrev pub uses_vertex : ℕ → Line → Bool
uses_vertex n l = (l.v1 == n) || (l.v2 == n)

-- the side is the line's right or left one
abbrev pub uses_side : ℕ → Line → Bool
uses_side n l = (l.right == n) || (has_left l && (l.left == n))

-- the side belongs to the sector
abbrev pub in_sector : ℕ → Side → Bool
in_sector n s = s.sector == n

-- the line is longer than the greatest allowed length
abbrev pub is_too_long : List Vertex → Line → Bool
is_too_long vs l =
    nat_lt longest_squared (squared_distance (nth_vertex vs l.v1) (nth_vertex vs l.v2))

-- ---- Vertices

-- why a vertex can't be added: its place is taken, or the table is full
abbrev pub vertex_faults : Tables → Vertex → List (ℕ × Bool)
vertex_faults m v = (code_of PlaceTaken, is_taken m.vertices v)
    ∷ (code_of TableFull, lacks_room m.vertices 1) ∷ []

-- why a vertex can't be moved: it isn't there, another one has the place, or a line of it would be too long
abbrev pub set_vertex_faults : Tables → ℕ → Vertex → List (ℕ × Bool)
set_vertex_faults m n v =
    (code_of NoVertex, lacks m.vertices n)
    ∷ (code_of PlaceTaken, is_taken_beside m.vertices n v)
    ∷ (
      code_of LineTooLong,
      list_any (λ l. uses_vertex n l
          && is_too_long (slice_set m.vertices n v) l) m.lines,
    ) ∷ []

-- why a vertex can't be removed: it isn't there, or a line has it
abbrev pub drop_vertex_faults : Tables → ℕ → List (ℕ × Bool)
drop_vertex_faults m n =
    (code_of NoVertex, lacks m.vertices n) ∷ (code_of InUse, list_any (uses_vertex n) m.lines) ∷ []

-- ---- Sectors

-- why a sector can't be added: the table is full
abbrev pub sector_faults : Tables → List (ℕ × Bool)
sector_faults m = (code_of TableFull, lacks_sector_room m.sectors 1) ∷ []

-- why a sector can't be changed: it isn't there
abbrev pub set_sector_faults : Tables → ℕ → List (ℕ × Bool)
set_sector_faults m n = (code_of NoSector, lacks m.sectors n) ∷ []

-- why a sector can't be removed: it isn't there, or a side faces it
abbrev pub drop_sector_faults : Tables → ℕ → List (ℕ × Bool)
drop_sector_faults m n = (code_of NoSector, lacks m.sectors n)
    ∷ (code_of InUse, list_any (in_sector n) m.sides) ∷ []

-- ---- Sides

-- why a side can't be added: its sector isn't there, or the table is full
abbrev pub side_faults : Tables → Side → List (ℕ × Bool)
side_faults m s = (code_of NoSector, lacks m.sectors s.sector)
    ∷ (code_of TableFull, lacks_room m.sides 1) ∷ []

-- why a side can't be changed: its new sector isn't there, or it isn't
abbrev pub set_side_faults : Tables → ℕ → Side → List (ℕ × Bool)
set_side_faults m n s = (code_of NoSector, lacks m.sectors s.sector)
    ∷ (code_of NoSide, lacks m.sides n) ∷ []

-- why a side can't be removed: it isn't there, or a line has it
abbrev pub drop_side_faults : Tables → ℕ → List (ℕ × Bool)
drop_side_faults m n = (code_of NoSide, lacks m.sides n)
    ∷ (code_of InUse, list_any (uses_side n) m.lines) ∷ []

-- ---- Lines

-- an item that the line names doesn't exist
abbrev pub reference_faults : Tables → Line → List (ℕ × Bool)
reference_faults m l =
    (code_of NoVertex, lacks m.vertices l.v1 || lacks m.vertices l.v2)
    ∷ (code_of NoSide, lacks m.sides l.right || (has_left l && lacks m.sides l.left)) ∷ []

-- the line's own fields aren't consistent
abbrev pub shape_faults : Line → List (ℕ × Bool)
shape_faults l = (code_of SameEnds, l.v1 == l.v2)
    ∷ (code_of TwoSidedWithoutLeft, is_two_sided l && not (has_left l)) ∷ []

-- why a line can't be added: what it names isn't there, its fields don't fit, the table is full, or it is too long
abbrev pub line_faults : Tables → Line → List (ℕ × Bool)
line_faults m l =
    reference_faults m l ++ shape_faults l
    ++ (code_of TableFull, lacks_room m.lines 1) ∷ (code_of LineTooLong, is_too_long m.vertices l)
    ∷ []

-- why a line can't be changed: as for a new one, or it isn't there
abbrev pub set_line_faults : Tables → ℕ → Line → List (ℕ × Bool)
set_line_faults m n l =
    reference_faults m l ++ (code_of NoLine, lacks m.lines n) ∷ shape_faults l
    ++ (code_of LineTooLong, is_too_long m.vertices l) ∷ []

-- why a line can't be removed: it isn't there
abbrev pub drop_line_faults : Tables → ℕ → List (ℕ × Bool)
drop_line_faults m n = (code_of NoLine, lacks m.lines n) ∷ []

-- ---- Things

-- why a thing can't be added: the table is full
abbrev pub thing_faults : Tables → List (ℕ × Bool)
thing_faults m = (code_of TableFull, lacks_room m.things 1) ∷ []

-- why a thing can't be changed: it isn't there
abbrev pub set_thing_faults : Tables → ℕ → List (ℕ × Bool)
set_thing_faults m n = (code_of NoThing, lacks m.things n) ∷ []

-- why a thing can't be removed: it isn't there
abbrev pub drop_thing_faults : Tables → ℕ → List (ℕ × Bool)
drop_thing_faults m n = (code_of NoThing, lacks m.things n) ∷ []
