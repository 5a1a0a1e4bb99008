-- The text of a number, and the line of a sector beside which its number is.
use Rattle.std.specs.Prelude.{ℕ, Bool, ◌&&◌, ◌||◌, ◌==◌, nat_lt, if◌then◌else◌, List, [], ◌++◌, fold, Option, Some, None, codes, decimal, ◌∷◌}
use Rattle.std.specs.Fmt.{signed_decimal}
use Rattle.std.specs.Option.{option_map_or}
use Rattle.lump_records.specs.declared.records.Line.{Line}
use Rattle.lump_records.specs.Drawing.{squared_distance}
use Rattle.lump_records.specs.Sides.{has_left}
use Rattle.lump_text.specs.Texts.{joined}
use Rattle.map_tables.specs.Tables.{Tables}
use Rattle.map_tables.specs.WellFormed.{nth_vertex}
use Rattle.map_picture.specs.Items.{sector_of}
use Rattle.map_svg.specs.Places.{middle_of}
use Rattle.map_svg.specs.declared.places.Spot.{Spot}
use Rattle.map_svg.specs.declared.places.Shift.{Shift}

-- the beginning of a number's text: its class, and the place beside which it is
unfoldable pub anchor_text : List ℕ → Spot → List ℕ
anchor_text class p =
    joined
    (codes "<text class=\"" ∷ class ∷ codes "\" x=\"" ∷ signed_decimal p.x ∷ codes "\" y=\""
    ∷ signed_decimal p.y ∷ codes "\"" ∷ [])

-- the vector from the place, and the number
unfoldable pub beside_text : Shift → ℕ → List ℕ
beside_text s n =
    joined
    (codes " dx=\"" ∷ signed_decimal s.dx ∷ codes "\" dy=\"" ∷ signed_decimal s.dy ∷ codes "\">"
    ∷ decimal n
    ∷ codes "</text>\n" ∷ [])

-- the text of a number with a class, beside a place
unfoldable pub number_text : List ℕ → Spot → Shift → ℕ → List ℕ
number_text class p s n = anchor_text class p ++ beside_text s n

-- the middle of a line
abbrev pub line_middle : Tables → Line → Spot
line_middle m l = middle_of (nth_vertex m.vertices l.v1) (nth_vertex m.vertices l.v2)

-- the line has the sector on a side
abbrev pub bounds : Tables → ℕ → Line → Bool
bounds m s l = (sector_of m l.right == s) || (has_left l && (sector_of m l.left == s))

-- the squared length of a line
abbrev pub squared_len : Tables → Line → ℕ
squared_len m l = squared_distance (nth_vertex m.vertices l.v1) (nth_vertex m.vertices l.v2)

-- the longest line so far of a sector, after one line more
abbrev pub longer : Tables → ℕ → Option Line → Line → Option Line
longer m s longest l =
    if bounds m s l && nat_lt (option_map_or (squared_len m) longest 0) (squared_len m l)
    then Some l else longest

-- the longest of a sector's lines; of several, the first one
abbrev pub longest_line : Tables → ℕ → Option Line
longest_line m s = fold (longer m s) None m.lines
