-- The places of a command behind its first word: what may stand at each, and the fault of what else
-- does.
use Rattle.std.specs.Prelude.{ℕ, Bool, false, ◌&&◌, ◌||◌, ◌==◌, if◌then◌else◌, List, [], ◌∷◌, ℤ, pos, negsuc, int_le, Option, Some, None, codes, bytes_eq}
use Rattle.lump_records.specs.Names.{is_name}
use Rattle.map_commands.specs.declared.error.CommandError.TheVariants.{NotACommand, OutOfRange, BadName}
use Rattle.map_commands.specs.Errors.{code_of}
use Rattle.map_words.specs.Words.{is_numeral, is_word, numeral_value}

-- what may stand at a place of a line: a number from a least one to a greatest one, such a number
-- or `-`, or a name
pub data Place : Type 0 where
  Number : ℤ → ℤ → Place
  NumberOrNone : ℤ → ℤ → Place
  Named : (List ℕ → Bool) → Place

-- whether the word has the form of the place
abbrev pub has_form : Place → List ℕ → Bool
has_form (Number low high) w = is_numeral w
has_form (NumberOrNone low high) w = is_numeral w || bytes_eq w (codes "-")
has_form (Named test) w = is_word w

-- OutOfRange where the number is out of its range
abbrev pub range_fault : ℤ → ℤ → List ℕ → Option ℕ
range_fault low high w =
    if int_le low (numeral_value w) && int_le (numeral_value w) high then None
    else Some (code_of OutOfRange)

-- what is wrong with a word that has the form of its place: OutOfRange for a number, BadName for a
-- name
abbrev pub fault_at : Place → List ℕ → Option ℕ
fault_at (Number low high) w = range_fault low high w
fault_at (NumberOrNone low high) w = if is_numeral w then range_fault low high w else None
fault_at (Named test) w = if test w then None else Some (code_of BadName)

-- the fault of a word at its place: NotACommand where it hasn't the form
abbrev pub place_fault : Place → List ℕ → Option ℕ
place_fault p w = if has_form p w then fault_at p w else Some (code_of NotACommand)

-- whether it is NotACommand
abbrev pub is_form_fault : Option ℕ → Bool
is_form_fault None = false
is_form_fault (Some code) = code == code_of NotACommand

-- the fault of two places: the left one, but NotACommand where the right one is
abbrev pub prior_fault : Option ℕ → Option ℕ → Option ℕ
prior_fault None right = right
prior_fault (Some code) right = if is_form_fault right then Some (code_of NotACommand)
    else Some code

-- the fault of the words, one at each place: NotACommand where they aren't as many as the places
abbrev pub places_fault : List Place → List (List ℕ) → Option ℕ
places_fault [] [] = None
places_fault [] (w ∷ ws) = Some (code_of NotACommand)
places_fault (p ∷ ps) [] = Some (code_of NotACommand)
places_fault (p ∷ ps) (w ∷ ws) = prior_fault (place_fault p w) (places_fault ps ws)

-- -16384 to 16383
abbrev pub coordinate : Place
coordinate = Number (negsuc 16383) (pos 16383)

-- -32768 to 32767: heights and offsets
abbrev pub height : Place
height = Number (negsuc 32767) (pos 32767)

-- 0 to 32767: flags, special, tag, type, options
abbrev pub flags : Place
flags = Number (pos 0) (pos 32767)

-- 0 to 255
abbrev pub light : Place
light = Number (pos 0) (pos 255)

-- 0 to 359
abbrev pub angle : Place
angle = Number (pos 0) (pos 359)

-- 0 to 32766: the number of an item
abbrev pub item : Place
item = Number (pos 0) (pos 32766)

-- 0 to 4095: the number of a sector
abbrev pub sector_item : Place
sector_item = Number (pos 0) (pos 4095)

-- the name of a flat or a texture
abbrev pub name : Place
name = Named is_name

-- X Y
abbrev pub vertex_places : List Place
vertex_places = coordinate ∷ coordinate ∷ []

-- F C FN CN LIGHT SPECIAL TAG
abbrev pub sector_places : List Place
sector_places = height ∷ height ∷ name ∷ name ∷ light ∷ flags ∷ flags ∷ []

-- XO YO UP LOW MID SECTOR
abbrev pub side_places : List Place
side_places = height ∷ height ∷ name ∷ name ∷ name ∷ sector_item ∷ []

-- V1 V2 FLAGS SPECIAL TAG RIGHT LEFT
abbrev pub line_places : List Place
line_places = item ∷ item ∷ flags ∷ flags ∷ flags ∷ item ∷ NumberOrNone (pos 0) (pos 32766) ∷ []

-- X Y ANGLE TYPE OPTIONS
abbrev pub thing_places : List Place
thing_places = coordinate ∷ coordinate ∷ angle ∷ flags ∷ flags ∷ []

-- X1 Y1 X2 Y2 F C FN CN WALL LIGHT
abbrev pub room_places : List Place
room_places =
    coordinate ∷ coordinate ∷ coordinate ∷ coordinate ∷ height ∷ height ∷ name ∷ name ∷ name ∷ light
    ∷ []
