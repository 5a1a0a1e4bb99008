-- The element that draws a line.
use Rattle.std.specs.Prelude.{ℕ, ◌==◌, if◌then◌else◌, List, [], ◌++◌, codes, decimal, ◌∷◌}
use Rattle.std.specs.Fmt.{signed_decimal}
use Rattle.lump_records.specs.declared.records.Line.{Line}
use Rattle.lump_records.specs.Sides.{has_left, is_two_sided}
use Rattle.lump_text.specs.Texts.{joined}
use Rattle.map_tables.specs.Tables.{Tables}
use Rattle.map_svg.specs.Texts.{path_text}
use Rattle.map_tables.specs.WellFormed.{nth_vertex}
use Rattle.map_picture.specs.Items.{sector_of}
use Rattle.map_svg.specs.Places.{middle_of, shift_right, spot_of}
use Rattle.map_svg.specs.declared.places.Spot.{Spot}
use Rattle.map_svg.specs.declared.places.Shift.{Shift}

-- the class that a line has by its flags
abbrev pub width_class : Line → List ℕ
width_class l = if is_two_sided l then codes "two" else codes "one"

-- the class that a line has by its special
abbrev pub special_class : Line → List ℕ
special_class l = if l.special == 0 then [] else codes " special"

-- the element's beginning: its id, its classes, and the title up to the line's vertices
unfoldable pub ends_text : ℕ → Line → List ℕ
ends_text n l =
    joined
    (codes "<g id=\"line" ∷ decimal n ∷ codes "\" class=\"" ∷ width_class l ∷ special_class l
    ∷ codes "\">\n<title>line " ∷ decimal n ∷ codes ": vertices " ∷ decimal l.v1 ∷ codes " "
    ∷ decimal l.v2 ∷ [])

-- the title's next part: the flags, the special, the tag and the right side
unfoldable pub fields_text : Tables → Line → List ℕ
fields_text m l =
    joined
    (codes ", flags " ∷ decimal l.flags ∷ codes ", special " ∷ decimal l.special ∷ codes ", tag "
    ∷ decimal l.tag ∷ codes ", right side " ∷ decimal l.right ∷ codes " (sector "
    ∷ decimal (sector_of m l.right) ∷ codes ")" ∷ [])

-- a left side and its sector
unfoldable pub left_side_text : ℕ → ℕ → List ℕ
left_side_text left sector =
    joined (codes ", left side " ∷ decimal left ∷ codes " (sector " ∷ decimal sector ∷ codes ")"
    ∷ [])

-- the title's last part: the left side, if there is one
unfoldable pub left_text : Tables → Line → List ℕ
left_text m l = if has_left l then left_side_text l.left (sector_of m l.left)
    else codes ", no left side"

-- the element's beginning and the whole of the title
unfoldable pub title_text : Tables → ℕ → Line → List ℕ
title_text m n l = ends_text n l ++ fields_text m l ++ left_text m l

-- a tick from the line's middle to its right side, and the element's end
unfoldable pub tick_text : Spot → Shift → List ℕ
tick_text middle right =
    joined
    (codes "<path class=\"tick\" d=\"M" ∷ signed_decimal middle.x ∷ codes " "
    ∷ signed_decimal middle.y
    ∷ codes "l" ∷ signed_decimal right.dx ∷ codes " " ∷ signed_decimal right.dy ∷ codes "\"/></g>\n"
    ∷ [])

-- the element of a line, with a tick of this length
unfoldable pub line_text : Tables → ℕ → ℕ → Line → List ℕ
line_text m step n l =
    let from = nth_vertex m.vertices l.v1 in
    let to = nth_vertex m.vertices l.v2 in
    title_text m n l ++ path_text (spot_of from) (spot_of to)
    ++ tick_text (middle_of from to) (shift_right from to step)
