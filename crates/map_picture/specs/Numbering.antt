-- The numbers of a picture, and how many are left out.
use Rattle.std.specs.Prelude.{ℕ, ◌==◌, Bool, true, false, if◌then◌else◌, List, [], ◌∷◌, ◌++◌, flat_map, codes, decimal, pos, ◌+ℤ◌, ◌-ℤ◌}
use Rattle.std.specs.Fmt.{signed_decimal}
use Rattle.lump_text.specs.Texts.{joined}
use Rattle.map_tables.specs.Tables.{Tables}
use Rattle.map_picture.specs.Numbers.{number_text}
use Rattle.map_picture.specs.Labels.{number_size}
use Rattle.map_picture.specs.Placing.{left_out, placed_numbers}
use Rattle.map_picture.specs.declared.labels.Numbered.{Numbered}
use Rattle.map_picture.specs.declared.labels.Numbered.TheVariants.{Sector, Line, Vertex, Thing}
use Rattle.map_picture.specs.declared.placing.Placed.{Placed}
use Rattle.map_picture.specs.declared.view.View.{View}

-- the class of a number
abbrev pub number_class : Numbered → List ℕ
number_class Sector = codes "of-sector"
number_class Line = codes "of-line"
number_class Vertex = codes "of-vertex"
number_class Thing = codes "of-thing"

-- a number where it is placed
abbrev pub placed_number : Placed → List ℕ
placed_number p = number_text (number_class p.item) p.place p.shift p.n

-- the beginning of the numbers' group, with the size of their text
unfoldable pub group_opening : ℕ → List ℕ
group_opening size =
    joined (codes "<g id=\"numbers\" font-size=\"" ∷ decimal size ∷ codes "\">\n" ∷ [])

-- the group of the numbers that are placed
unfoldable pub group_text : ℕ → List Placed → List ℕ
group_text size placed = group_opening size ++ flat_map placed_number placed ++ codes "</g>\n"

-- the beginning of the note, in the page's lower left corner
unfoldable pub note_opening : View → List ℕ
note_opening v =
    joined
    (codes "<text class=\"left-out\" x=\"" ∷ signed_decimal (v.left +ℤ pos v.step)
    ∷ codes "\" y=\"" ∷ signed_decimal ((v.top +ℤ pos v.height) -ℤ pos v.step) ∷ codes "\">" ∷ [])

-- what is said of one number, or of several
abbrev pub are_or_is : ℕ → List ℕ
are_or_is count = if count == 1 then codes " number is" else codes " numbers are"

-- how many numbers are left out, and the note's end
unfoldable pub note_count : ℕ → List ℕ
note_count count =
    joined
    (decimal count ∷ are_or_is count ∷ codes " left out: look at a part with --crop</text>\n" ∷ [])

-- the note, if a number is left out
unfoldable pub note_text : View → ℕ → List ℕ
note_text v count = if count == 0 then [] else note_opening v ++ note_count count

-- the numbers that are placed, and how many aren't
unfoldable pub numbering_text : ℕ → View → List Placed → ℕ → List ℕ
numbering_text size v placed count = group_text size placed ++ note_text v count

-- the numbers of a map on a page, if they are asked for
abbrev pub numbers_text : Bool → Tables → View → List ℕ
numbers_text true m v =
    numbering_text (number_size m v) v (placed_numbers m v) (left_out m v)
numbers_text false m v = []
