-- The words of a command line that tell places, and the line with these places placed.
use Rattle.std.specs.Prelude.{ℕ, Bool, true, false, ◌&&◌, if◌then◌else◌, List, [], ◌∷◌, ◌++◌, take, drop, Option, Some, None, Result, Ok, Err, pos, bytes_eq, codes}
use Rattle.std.specs.Fmt.{signed_decimal}
use Rattle.std.specs.Ordering.{int_eq}
use Rattle.std.specs.List.{join_with_byte}
use Rattle.std.specs.Option.{is_none}
use Rattle.lump_records.specs.declared.records.Vertex.{Vertex}
use Rattle.map_commands.specs.Grammar.{head_layout, head_of}
use Rattle.map_commands.specs.declared.grammar.Head.{Head}
use Rattle.map_commands.specs.declared.layout.Layout.{Layout}
use Rattle.map_commands.specs.declared.layout.Layout.TheVariants.{Corners, Looking, Walls}
use Rattle.map_commands.specs.Places.{angle, place_fault}
use Rattle.map_words.specs.Words.{numeral_value}
use Rattle.map_script.specs.Placings.{is_coordinate_word, place_of, placed_to, turned_angle}
use Rattle.map_script.specs.Words.{text_words}
use Rattle.map_script.specs.declared.error.DrawError.{DrawError}
use Rattle.map_script.specs.declared.placing.Facing.{Facing}
use Rattle.map_script.specs.declared.placing.Facing.TheVariants.{East, North, West, South}
use Rattle.map_script.specs.declared.placing.Placing.{Placing}

-- a place as two words
abbrev pub pair_words : Vertex → List ℕ × List ℕ
pair_words v = (signed_decimal v.x, signed_decimal v.y)

-- X Y as words, placed; as they are if no place has them
abbrev pub placed_pair : Placing → List ℕ → List ℕ → List ℕ × List ℕ
placed_pair p x y =
    if is_coordinate_word x && is_coordinate_word y
    then pair_words (placed_to p (place_of x y)) else (x, y)

-- X Y of each corner
abbrev pub placed_corners : Placing → List (List ℕ) → List (List ℕ)
placed_corners p [] = []
placed_corners p (x ∷ []) = x ∷ []
placed_corners p (x ∷ y ∷ ws) =
    (placed_pair p x y).0 ∷ (placed_pair p x y).1 ∷ placed_corners p ws

-- ANGLE, turned; as it is if it is none
abbrev pub angle_word : Facing → List ℕ → List ℕ
angle_word f w =
    if is_none (place_fault angle w) then signed_decimal (turned_angle f (numeral_value w)) else w

-- X Y ANGLE ..
abbrev pub placed_looking : Placing → List (List ℕ) → List (List ℕ)
placed_looking p (x ∷ y ∷ a ∷ ws) =
    (placed_pair p x y).0 ∷ (placed_pair p x y).1 ∷ angle_word p.facing a ∷ ws
placed_looking p ws = ws

-- the lower left and the upper right corner of four walls, of which these two opposite corners were
-- so before the turn
abbrev pub wall_words : Facing → List ℕ × List ℕ → List ℕ × List ℕ → List (List ℕ)
wall_words East a b = a.0 ∷ a.1 ∷ b.0 ∷ b.1 ∷ []
wall_words North a b = b.0 ∷ a.1 ∷ a.0 ∷ b.1 ∷ []
wall_words West a b = b.0 ∷ b.1 ∷ a.0 ∷ a.1 ∷ []
wall_words South a b = a.0 ∷ b.1 ∷ b.0 ∷ a.1 ∷ []

-- X1 Y1 X2 Y2 ..
abbrev pub placed_walls : Placing → List (List ℕ) → List (List ℕ)
placed_walls p (a ∷ b ∷ c ∷ d ∷ ws) =
    wall_words p.facing (placed_pair p a b) (placed_pair p c d) ++ ws
placed_walls p ws = ws

-- the words from the first place on
abbrev pub placed_by : Layout → Placing → List (List ℕ) → List (List ℕ)
placed_by Corners p ws = placed_corners p ws
placed_by Looking p ws = placed_looking p ws
placed_by Walls p ws = placed_walls p ws

-- how many words of a shape stand between its first word and its places, and how the places stand
abbrev pub shape_layout : List ℕ → Option (ℕ × Layout)
shape_layout w =
    if bytes_eq w (codes "pillar") then Some (1, Corners)
    else (if bytes_eq w (codes "area") then Some (6, Corners) else None)

-- the same for a command, if its first word is known, and else for a shape
abbrev pub layout_at : Option Head → List ℕ → Option (ℕ × Layout)
layout_at (Some h) w = head_layout h
layout_at None w = shape_layout w

-- the same for a line, by its first word
abbrev pub layout_of : List ℕ → Option (ℕ × Layout)
layout_of w = layout_at (head_of w) w

-- the words behind a first word
abbrev pub placed_behind : Placing → Option (ℕ × Layout) → List (List ℕ) → List (List ℕ)
placed_behind p None ws = ws
placed_behind p (Some (skipped, layout)) ws =
    take skipped ws ++ placed_by layout p (drop skipped ws)

-- the words of a line
abbrev pub placed_words : Placing → List (List ℕ) → List (List ℕ)
placed_words p [] = []
placed_words p (w ∷ ws) = w ∷ placed_behind p (layout_of w) ws

-- whether nothing is turned
abbrev pub faces_east : Facing → Bool
faces_east East = true
faces_east f = false

-- whether nothing is turned or moved
abbrev pub is_unplaced : Placing → Bool
is_unplaced p = faces_east p.facing && (int_eq p.at.x (pos 0) && int_eq p.at.y (pos 0))

-- a line
abbrev pub placed_text : Placing → List ℕ → List ℕ
placed_text p text =
    if is_unplaced p then text else join_with_byte 32 (placed_words p (text_words text))

-- a line, if it is one
abbrev pub placed_line : Placing → Result (List ℕ) DrawError → Result (List ℕ) DrawError
placed_line p (Ok text) = Ok (placed_text p text)
placed_line p (Err e) = Err e
