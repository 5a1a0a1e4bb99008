-- Lines `at X Y [ANGLE]`, which place the lines of their block.
use Rattle.std.specs.Prelude.{ℕ, ℤ, pos, ◌&&◌, if◌then◌else◌, List, [], ◌∷◌, Option, Some, None, Result, Ok, Err, bytes_eq, codes}
use Rattle.std.specs.Ordering.{int_eq}
use Rattle.std.specs.Option.{is_none}
use Rattle.lump_records.specs.declared.records.Vertex.{Vertex}
use Rattle.map_tables.specs.Tables.{Tables}
use Rattle.map_script.specs.Lines.{joined_line, name_in, words_for}
use Rattle.map_script.specs.Placings.{coordinate_of, faced, placed_vertex, vertex_of}
use Rattle.map_script.specs.Reckoned.{number_in_text}
use Rattle.map_script.specs.Scopes.{Scope}
use Rattle.map_script.specs.Words.{text_words}
use Rattle.map_script.specs.declared.error.DrawError.{DrawError}
use Rattle.map_script.specs.declared.error.DrawError.TheVariants.{NotAQuarter, NotAnAt, OutsideMap}
use Rattle.map_script.specs.declared.placing.Facing.{Facing}
use Rattle.map_script.specs.declared.placing.Facing.TheVariants.{East, North, West, South}
use Rattle.map_script.specs.declared.placing.Placing.{Placing}

-- what stands behind the first word of `at X Y [ANGLE]`
abbrev pub at_words : List (List ℕ) → Option (List (List ℕ))
at_words [] = None
at_words (w ∷ ws) =
    if bytes_eq w (codes "at") && is_none (name_in (w ∷ ws)) then Some ws else None

-- the turn of so many degrees, if it is a quarter, two, three or none
abbrev pub facing_by : ℤ → Option Facing
facing_by n =
    if int_eq n (pos 0) then Some East
    else (if int_eq n (pos 90) then Some North
    else (if int_eq n (pos 180) then Some West
    else (if int_eq n (pos 270) then Some South else None)))

-- the placing of a place and a turn, if they are such
abbrev pub placing_to : Option Vertex → Option Facing → Result Placing DrawError
placing_to None facing = Err OutsideMap
placing_to (Some at) None = Err NotAQuarter
placing_to (Some at) (Some facing) = Ok (record { at = at; facing = facing })

-- the placing of three numbers, or the error of the first that is none
abbrev pub placing_of : Result ℤ DrawError → Result ℤ DrawError → Result ℤ DrawError
    → Result Placing DrawError
placing_of (Err e) y angle = Err e
placing_of (Ok x) (Err e) angle = Err e
placing_of (Ok x) (Ok y) (Err e) = Err e
placing_of (Ok x) (Ok y) (Ok angle) =
    placing_to (vertex_of (coordinate_of x) (coordinate_of y)) (facing_by angle)

-- the placing that two or three words write
abbrev pub placing_in : List (List ℕ) → Result Placing DrawError
placing_in (x ∷ y ∷ []) = placing_of (number_in_text x) (number_in_text y) (Ok (pos 0))
placing_in (x ∷ y ∷ a ∷ []) =
    placing_of (number_in_text x) (number_in_text y) (number_in_text a)
placing_in ws = Err NotAnAt

-- the placing of a block within a block that is placed so
abbrev pub placing_within : Placing → Result Placing DrawError → Result Placing DrawError
placing_within outer (Err e) = Err e
placing_within outer (Ok inner) =
    placing_to (placed_vertex outer inner.at) (Some (faced outer.facing inner.facing))

-- the same of the words of a text
abbrev pub placing_in_text : Placing → Result (List ℕ) DrawError → Result Placing DrawError
placing_in_text outer (Err e) = Err e
placing_in_text outer (Ok text) = placing_within outer (placing_in (text_words text))

-- how the block of X Y [ANGLE] places its lines, or what is wrong with it
abbrev pub at_placing : Scope → Tables → List (List ℕ) → Result Placing DrawError
at_placing scope m ws = placing_in_text scope.placing (joined_line (words_for scope m ws))
