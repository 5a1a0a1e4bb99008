-- Where an `at` places the lines of its block: they are turned about 0 0, then moved.
use Rattle.std.specs.Prelude.{◌≡◌, ℕ, ℤ, pos, neg_ℤ, ◌+ℤ◌, ◌&&◌, Bool, if◌then◌else◌, List, Option, Some, None, int_lt}
use Rattle.std.specs.Int.RustNames.{int_le}
use Rattle.std.specs.Option.{is_none}
use Rattle.lump_records.specs.declared.limits.TheConstants.{GREATEST_COORDINATE, LEAST_COORDINATE}
use Rattle.lump_records.specs.declared.records.Vertex.{Vertex}
use Rattle.map_commands.specs.Places.{coordinate, place_fault}
use Rattle.map_words.specs.Words.{numeral_value}
use Rattle.map_script.specs.declared.placing.Facing.{Facing}
use Rattle.map_script.specs.declared.placing.Facing.TheVariants.{East, North, West, South}
use Rattle.map_script.specs.declared.placing.Placing.{Placing}

-- ---- Turns, by which way what lay in the east then lies

-- a place turned about 0 0, counter-clockwise
abbrev pub turned_place : Facing → Vertex → Vertex
turned_place East v = v
turned_place North v = record { x = neg_ℤ v.y; y = v.x }
turned_place West v = record { x = neg_ℤ v.x; y = neg_ℤ v.y }
turned_place South v = record { x = v.y; y = neg_ℤ v.x }

-- a turn in degrees
abbrev pub degrees : Facing → ℤ
degrees East = pos 0
degrees North = pos 90
degrees West = pos 180
degrees South = pos 270

-- an angle from 0 to 359 turned, kept so
abbrev pub turned_angle : Facing → ℤ → ℤ
turned_angle f angle =
    if int_lt (angle +ℤ degrees f) (pos 360) then angle +ℤ degrees f
    else angle +ℤ degrees f +ℤ neg_ℤ (pos 360)

-- a quarter more
abbrev pub quarter_more : Facing → Facing
quarter_more East = North
quarter_more North = West
quarter_more West = South
quarter_more South = East

-- one turn after another
abbrev pub faced : Facing → Facing → Facing
faced East f = f
faced North f = quarter_more f
faced West f = quarter_more (quarter_more f)
faced South f = quarter_more (quarter_more (quarter_more f))

-- ---- Places

-- nothing is turned or moved
abbrev pub unplaced : Placing
unplaced = record { at = record { x = pos 0; y = pos 0 }; facing = East }

-- a place is turned, then moved
abbrev pub placed_to : Placing → Vertex → Vertex
placed_to p v = record {
  x = (turned_place p.facing v).x +ℤ p.at.x;
  y = (turned_place p.facing v).y +ℤ p.at.y;
}

-- a number as a coordinate, if a place can have it
abbrev pub coordinate_of : ℤ → Option ℤ
coordinate_of n =
    if int_le LEAST_COORDINATE n && int_le n GREATEST_COORDINATE then Some n else None

-- the place of two coordinates
abbrev pub vertex_of : Option ℤ → Option ℤ → Option Vertex
vertex_of None y = None
vertex_of (Some x) None = None
vertex_of (Some x) (Some y) = Some (record { x = x; y = y })

-- where a place is placed, if that is a place
abbrev pub placed_vertex : Placing → Vertex → Option Vertex
placed_vertex p v = vertex_of (coordinate_of (placed_to p v).x) (coordinate_of (placed_to p v).y)

-- a place is placed as by the block within, then by the block around it
abbrev pub IsPlacedWithin : Placing → Placing → Placing → Type 0
IsPlacedWithin outer inner both =
    (v : Vertex) → placed_to both v ≡ placed_to outer (placed_to inner v)

-- ---- Words

-- whether a number can be one of a place
abbrev pub is_coordinate_word : List ℕ → Bool
is_coordinate_word w = is_none (place_fault coordinate w)

-- the place that two numbers write
abbrev pub place_of : List ℕ → List ℕ → Vertex
place_of x y = record { x = numeral_value x; y = numeral_value y }
