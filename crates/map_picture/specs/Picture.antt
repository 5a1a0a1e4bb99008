-- The whole picture.
use Rattle.std.specs.Prelude.{◌≡◌, ◌⊎◌, ℕ, Bool, true, Option, List, [], ◌∷◌, ◌++◌, flat_map, codes, decimal}
use Rattle.std.specs.Fmt.{signed_decimal}
use Rattle.std.specs.Io.KnownBytes.{Keeps}
use Rattle.std.specs.List.{range_with_len}
use Rattle.lump_records.specs.Names.{name_text}
use Rattle.lump_records.specs.declared.records.Name8.{Name8}
use Rattle.lump_text.specs.Texts.{joined}
use Rattle.map_tables.specs.declared.kind.Kind.{Kind}
use Rattle.map_tables.specs.declared.kind.Kind.TheVariants as kind
use Rattle.map_tables.specs.Tables.{Tables, count_of}
use Rattle.map_svg.specs.Overlays.{overlay_text}
use Rattle.map_svg.specs.Texts.{of_item}
use Rattle.map_svg.specs.declared.overlay.Overlay.{Overlay}
use Rattle.map_svg.specs.declared.places.Spot.{Spot}
use Rattle.map_picture.specs.declared.parts.Part.{Part}
use Rattle.map_picture.specs.declared.parts.Part.TheVariants.{Lines, Things, Vertices}
use Rattle.map_picture.specs.declared.options.PictureError.{PictureError}
use Rattle.map_picture.specs.declared.options.PictureError.TheVariants.{OutOfMemory, WriterFailed}
use Rattle.map_picture.specs.declared.options.PictureOptions.{PictureOptions}
use Rattle.map_picture.specs.declared.view.View.{View}
use Rattle.map_picture.specs.Lines.{line_text}
use Rattle.map_picture.specs.Numbering.{numbers_text}
use Rattle.map_picture.specs.Sheet.{closing_text, sheet_of, under_text}
use Rattle.map_picture.specs.Style.{style_text}
use Rattle.map_picture.specs.Things.{thing_text}
use Rattle.map_picture.specs.Vertices.{vertex_text}
use Rattle.map_picture.specs.View.{view_of}

-- the picture's beginning: the part of the plane that it shows, and the height of its texts
unfoldable pub opening_text : View → List ℕ
opening_text v =
    joined
    (codes "<svg class=\"leveled\" xmlns=\"http://www.w3.org/2000/svg\" version=\"1.1\" width=\"100%\"\nviewBox=\""
    ∷ signed_decimal v.left ∷ codes " " ∷ signed_decimal v.top ∷ codes " " ∷ decimal v.width
    ∷ codes " "
    ∷ decimal v.height ∷ codes "\" font-size=\"" ∷ decimal v.step ∷ codes "\">\n<title>" ∷ [])

-- the page on which the map is drawn
unfoldable pub page_text : View → List ℕ
page_text v =
    joined
    (codes "<rect class=\"page\" x=\"" ∷ signed_decimal v.left ∷ codes "\" y=\""
    ∷ signed_decimal v.top
    ∷ codes "\" width=\"" ∷ decimal v.width ∷ codes "\" height=\"" ∷ decimal v.height
    ∷ codes "\"/>\n" ∷ [])

-- the title: the map's name
unfoldable pub map_title : Name8 → List ℕ
map_title name = name_text name ++ codes "</title>\n"

-- the style and the page
unfoldable pub paper_text : View → List ℕ
paper_text v = style_text ++ page_text v

-- the head: the beginning, the title, the style and the page
unfoldable pub head_text : View → Name8 → List ℕ
head_text v name = opening_text v ++ map_title name ++ paper_text v

-- the parts of a picture in their order
abbrev pub picture_parts : List Part
picture_parts = Lines ∷ Things ∷ Vertices ∷ []

-- the table whose items a part shows
abbrev pub part_kind : Part → Kind
part_kind Lines = kind.Line
part_kind Things = kind.Thing
part_kind Vertices = kind.Vertex

-- the element of a part for the item with the number, with ticks of this length
abbrev pub element : Tables → ℕ → Part → ℕ → List ℕ
element m step Lines n = of_item (line_text m step n) m.lines n
element m step Things n = of_item (thing_text n) m.things n
element m step Vertices n = of_item (vertex_text n) m.vertices n

-- a part: the element of each item, in the order of the items
abbrev pub part_text : Tables → ℕ → Part → List ℕ
part_text m step part =
    flat_map (element m step part) (range_with_len 0 (count_of m (part_kind part)))

-- the upper left corner of the page
abbrev pub page_corner : View → Spot
page_corner v = record { x = v.left; y = v.top }

-- the map: its parts, the numbers if they are asked for, and the overlay
unfoldable pub map_text : Bool → Tables → View → Overlay → List ℕ
map_text numbers m v o =
    flat_map (part_text m v.step) picture_parts ++ numbers_text numbers m v
    ++ overlay_text v.step (page_corner v) o

-- the picture of a map with its overlay, on a sheet
abbrev pub picture_of : PictureOptions → Tables → Overlay → List ℕ
picture_of options m o =
    let view = view_of options.crop m in
    head_text (sheet_of options view) m.name ++ under_text options m view
    ++ map_text options.numbers m view o ++ closing_text options

-- the picture needs memory: for the numbers or for the filled sectors
abbrev pub WantsMemory : PictureOptions → Type 0
WantsMemory options = (options.heights ≡ true) ⊎ (options.numbers ≡ true)

-- why there is no picture: no memory for what takes some, with nothing written; or the writer failed
abbrev pub IsNotPictured : PictureOptions → Option (List ℕ) → Option (List ℕ) → PictureError
    → Type 0
IsNotPictured options writer-old writer-new OutOfMemory =
    WantsMemory options × Keeps writer-old writer-new
IsNotPictured options writer-old writer-new WriterFailed = Unit {0}
