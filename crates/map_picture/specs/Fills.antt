-- The sectors of a map as areas that are filled by the heights of their floors.
use Rattle.std.specs.Prelude.{ℕ, Bool, false, ◌&&◌, ◌==◌, if◌then◌else◌, List, [], ◌∷◌, ◌++◌, flat_map, length, codes, decimal}
use Rattle.std.specs.Fmt.{signed_decimal}
use Rattle.std.specs.List.{list_any, range_with_len}
use Rattle.lump_records.specs.Names.{name_text}
use Rattle.lump_records.specs.Sides.{has_left}
use Rattle.lump_records.specs.declared.records.Line.{Line}
use Rattle.lump_records.specs.declared.records.Sector.{Sector}
use Rattle.lump_text.specs.Texts.{joined}
use Rattle.map_tables.specs.Tables.{Tables}
use Rattle.map_tables.specs.WellFormed.{nth_vertex}
use Rattle.map_checks.specs.Findings.{findings}
use Rattle.map_checks.specs.declared.finding.Finding.{Finding}
use Rattle.map_checks.specs.declared.finding.Finding.TheVariants.{SectorOpen}
use Rattle.map_svg.specs.Places.{spot_of}
use Rattle.map_svg.specs.Texts.{of_item}
use Rattle.map_svg.specs.declared.places.Spot.{Spot}
use Rattle.map_picture.specs.Floors.{floor_colour}
use Rattle.map_picture.specs.Items.{sector_of}
use Rattle.map_picture.specs.declared.floors.Heights.{Heights}

-- whether the finding says that the sector isn't closed
abbrev pub tells_open : ℕ → Finding → Bool
tells_open n (SectorOpen sector vertex) = sector == n
tells_open n _ = false

-- whether one of the findings says that the sector isn't closed
abbrev pub is_found_open : List Finding → ℕ → Bool
is_found_open found n = list_any (tells_open n) found

-- the triangle of an edge and the picture's origin, as a way from the origin and back
unfoldable pub edge_text : Spot → Spot → List ℕ
edge_text from to =
    joined
    (codes "L" ∷ signed_decimal from.x ∷ codes " " ∷ signed_decimal from.y ∷ codes " "
    ∷ signed_decimal to.x ∷ codes " " ∷ signed_decimal to.y ∷ codes " 0 0" ∷ [])

-- the edge of a sector along a line that has it on exactly one side, led so that the sector is on the right
abbrev pub border_text : Tables → ℕ → Line → List ℕ
border_text m s l =
    let from = spot_of (nth_vertex m.vertices l.v1) in
    let to = spot_of (nth_vertex m.vertices l.v2) in
    let on_right = sector_of m l.right == s in
    let on_left = has_left l && (sector_of m l.left == s) in
    if on_right then (if on_left then [] else edge_text from to)
    else (if on_left then edge_text to from else [])

-- the edge of a sector along the line with the number
abbrev pub nth_border : Tables → ℕ → ℕ → List ℕ
nth_border m s n = of_item (border_text m s) m.lines n

-- The area of a sector: a place is in it if it is in an odd number of the triangles that the sector's edges have with
-- the picture's origin.
abbrev pub area_text : Tables → ℕ → List ℕ
area_text m s = flat_map (nth_border m s) (range_with_len 0 (length m.lines))

-- the beginning of a sector's element: its id, the class of its colour, and the beginning of its path
unfoldable pub fill_opening : ℕ → ℕ → List ℕ
fill_opening n colour =
    joined
    (codes "<path id=\"sector" ∷ decimal n ∷ codes "\" class=\"floor" ∷ decimal colour
    ∷ codes "\" fill-rule=\"evenodd\" d=\"M0 0" ∷ [])

-- the path's end, and the heights of the sector
unfoldable pub heights_text : ℕ → Sector → List ℕ
heights_text n s =
    joined
    (codes "\">\n<title>sector " ∷ decimal n ∷ codes ": floor " ∷ signed_decimal s.floor
    ∷ codes ", ceiling " ∷ signed_decimal s.ceiling ∷ codes ", flats " ∷ [])

-- the flats of the sector
unfoldable pub flats_text : Sector → List ℕ
flats_text s = name_text s.floor_name ++ codes " " ++ name_text s.ceiling_name

-- the light, the special and the tag of the sector, and the element's end
unfoldable pub sector_fields : Sector → List ℕ
sector_fields s =
    joined
    (codes ", light " ∷ signed_decimal s.light ∷ codes ", special " ∷ signed_decimal s.special
    ∷ codes ", tag " ∷ signed_decimal s.tag ∷ codes "</title></path>\n" ∷ [])

-- the element of a sector
unfoldable pub fill_text : Tables → Heights → ℕ → Sector → List ℕ
fill_text m h n s =
    fill_opening n (floor_colour h s.floor) ++ area_text m n ++ heights_text n s ++ flats_text s
    ++ sector_fields s

-- the element of the sector with the number, empty if `check` finds that the sector isn't closed
abbrev pub nth_fill : Tables → Heights → ℕ → List ℕ
nth_fill m h n = if is_found_open (findings m) n then [] else of_item (fill_text m h n) m.sectors n

-- the elements of the closed sectors, in the order of the sectors
abbrev pub all_fills : Tables → Heights → List ℕ
all_fills m h = flat_map (nth_fill m h) (range_with_len 0 (length m.sectors))
