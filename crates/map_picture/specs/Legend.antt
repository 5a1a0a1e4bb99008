-- The margin on the right of the page: a scale, and which colour stands for which heights.
use Rattle.std.specs.Prelude.{ℕ, ◌+◌, ◌-◌, ◌*◌, Bool, true, false, if◌then◌else◌, List, [], ◌∷◌, ◌++◌, flat_map, codes, decimal, ℤ, pos, ◌+ℤ◌}
use Rattle.std.specs.Fmt.{signed_decimal}
use Rattle.std.specs.List.{range_with_len}
use Rattle.std.specs.Option.{option_map_or}
use Rattle.std.specs.Ordering.{int_eq}
use Rattle.lump_text.specs.Texts.{joined}
use Rattle.map_tables.specs.Tables.{Tables}
use Rattle.map_picture.specs.Floors.{colour_of, first_height, floor_heights, last_height, step_count}
use Rattle.map_picture.specs.declared.floors.Heights.{Heights}
use Rattle.map_picture.specs.declared.options.PictureOptions.{PictureOptions}
use Rattle.map_picture.specs.declared.view.View.{View}

-- the beginning of what is in the margin, which is on the right of the page
unfoldable pub legend_opening : View → List ℕ
legend_opening v =
    joined
    (codes "<g id=\"legend\" font-size=\"1.6em\" transform=\"translate("
    ∷ signed_decimal (v.left +ℤ pos v.width) ∷ codes " " ∷ signed_decimal v.top ∷ codes ")\">\n"
    ∷ [])

-- a bar of 256 units with its length, with a grid
abbrev pub scale_text : Bool → List ℕ
scale_text true =
    codes "<text x=\"1em\" y=\"1.6em\">256 units</text>\n"
    ++ codes "<rect class=\"bar\" x=\"1em\" y=\"2.6em\" width=\"256\" height=\".3em\"/>\n"
scale_text false = []

-- the colour of a row, and the beginning of its text
unfoldable pub row_opening : ℕ → ℕ → List ℕ
row_opening row colour =
    joined
    (codes "<rect class=\"floor" ∷ decimal colour ∷ codes "\" x=\"1em\" y=\""
    ∷ decimal (6 + 2 * row)
    ∷ codes "em\" width=\"2em\" height=\"2em\"/>\n<text x=\"3.6em\" y=\""
    ∷ decimal (7 + 2 * row) ∷ codes "em\">" ∷ [])

-- the least height of a step of several
unfoldable pub first_text : ℤ → List ℕ
first_text first = joined (signed_decimal first ∷ codes " to " ∷ [])

-- the same, unless it is the only one
abbrev pub unless_only : ℤ → ℤ → List ℕ
unless_only first last = if int_eq first last then [] else first_text first

-- the greatest height of a step, and the row's end
unfoldable pub last_text : ℤ → List ℕ
last_text last = joined (signed_decimal last ∷ codes "</text>\n" ∷ [])

-- the heights of a step: from the least to the greatest, or the only one
unfoldable pub range_text : ℤ → ℤ → List ℕ
range_text first last = unless_only first last ++ last_text last

-- a row of the legend; the greatest heights are in the first one
unfoldable pub row_text : Heights → ℕ → List ℕ
row_text h row =
    let step = step_count h - 1 - row in
    row_opening row (colour_of h step) ++ range_text (first_height h step) (last_height h step)

-- the rows of all steps
abbrev pub rows_text : Heights → List ℕ
rows_text h = flat_map (row_text h) (range_with_len 0 (step_count h))

-- which colour stands for which heights
unfoldable pub scale_of_heights : Heights → List ℕ
scale_of_heights h = codes "<text x=\"1em\" y=\"5em\">floor</text>\n" ++ rows_text h

-- the same, if it is asked for and there is a sector
abbrev pub colours_text : Bool → Tables → List ℕ
colours_text true m = option_map_or scale_of_heights (floor_heights m) []
colours_text false m = []

-- what is in the margin
unfoldable pub legend_text : PictureOptions → Tables → View → List ℕ
legend_text options m v =
    legend_opening v ++ scale_text options.grid ++ colours_text options.heights m
    ++ codes "</g>\n"
