-- The sheet of a picture with a legend, a grid or a crop: the frame of the map, and what is beside and under the map.
use Rattle.std.specs.Prelude.{ℕ, ◌+◌, ◌*◌, max, Bool, true, false, ◌||◌, if◌then◌else◌, List, [], ◌∷◌, ◌++◌, is_some, codes, decimal}
use Rattle.std.specs.Fmt.{signed_decimal}
use Rattle.std.specs.Option.{option_map_or}
use Rattle.lump_text.specs.Texts.{joined}
use Rattle.map_tables.specs.Tables.{Tables}
use Rattle.map_picture.specs.Fills.{all_fills}
use Rattle.map_picture.specs.Floors.{floor_heights}
use Rattle.map_picture.specs.Legend.{legend_text}
use Rattle.map_picture.specs.Style.{sheet_style}
use Rattle.map_picture.specs.declared.options.PictureOptions.{PictureOptions}
use Rattle.map_picture.specs.declared.view.View.{View}

-- whether the page has a margin on the right, for a legend or a scale
abbrev pub has_margin : PictureOptions → Bool
has_margin options = options.heights || options.grid

-- whether the map is drawn in a frame, outside of which nothing of it is seen
abbrev pub is_framed : PictureOptions → Bool
is_framed options = has_margin options || is_some options.crop

-- the width of the margin, by the length of the ticks; it has room for the scale
abbrev pub margin_width : ℕ → ℕ
margin_width step = max (24 * step) 288

-- the whole sheet: the part of the plane that the page shows, and the margin, if the picture has one
abbrev pub sheet_of : PictureOptions → View → View
sheet_of options v =
    if has_margin options
    then record {
      left = v.left;
      top = v.top;
      width = v.width + margin_width v.step;
      height = max v.height (37 * v.step);
      step = v.step;
    }
    else v

-- the margin, if the picture has one
abbrev pub margin_text : PictureOptions → Tables → View → List ℕ
margin_text options m v = if has_margin options then legend_text options m v else []

-- the place and the size of the frame
unfoldable pub frame_box : View → List ℕ
frame_box v =
    joined
    (codes "<svg x=\"" ∷ signed_decimal v.left ∷ codes "\" y=\"" ∷ signed_decimal v.top
    ∷ codes "\" width=\"" ∷ decimal v.width ∷ codes "\" height=\"" ∷ decimal v.height
    ∷ codes "\"" ∷ [])

-- what the frame shows: the same part of the plane
unfoldable pub frame_view : View → List ℕ
frame_view v =
    joined
    (codes " viewBox=\"" ∷ signed_decimal v.left ∷ codes " " ∷ signed_decimal v.top ∷ codes " "
    ∷ decimal v.width ∷ codes " " ∷ decimal v.height ∷ codes "\">\n" ∷ [])

-- the beginning of the frame
unfoldable pub frame_text : View → List ℕ
frame_text v = frame_box v ++ frame_view v

-- The grid of 64 units: two lines as broad as a map may be, whose dashes are the grid's lines.
abbrev pub grid_text : Bool → List ℕ
grid_text true = codes "<path class=\"grid\" d=\"M-32768 0H32768M0 -32768V32768\"/>\n"
grid_text false = []

-- the areas of the closed sectors, if they are asked for
abbrev pub fills_text : Bool → Tables → List ℕ
fills_text true m = option_map_or (all_fills m) (floor_heights m) []
fills_text false m = []

-- the style of a sheet, the margin, and the beginning of the frame
unfoldable pub around_text : PictureOptions → Tables → View → List ℕ
around_text options m v = sheet_style ++ margin_text options m v ++ frame_text v

-- what is round the map and under it
unfoldable pub ground_text : PictureOptions → Tables → View → List ℕ
ground_text options m v =
    around_text options m v ++ grid_text options.grid ++ fills_text options.heights m

-- the same, if the map has a frame
abbrev pub under_text : PictureOptions → Tables → View → List ℕ
under_text options m v = if is_framed options then ground_text options m v else []

-- the end of the frame, if there is one, and of the picture
abbrev pub closing_text : PictureOptions → List ℕ
closing_text options =
    if is_framed options then codes "</svg>\n</svg>\n" else codes "</svg>\n"
