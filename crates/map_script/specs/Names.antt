-- Names, and the numbers that references stand for.
use Rattle.std.specs.Prelude.{ℕ, Bool, true, false, ◌+◌, ◌-◌, ◌*◌, ◌&&◌, ◌||◌, ◌==◌, nat_le, if◌then◌else◌, List, [], ◌∷◌, take, drop, fold, position, Option, Some, None, Result, Ok, Err}
use Rattle.std.specs.List.{list_all}
use Rattle.std.specs.Option.{is_some}
use Rattle.map_tables.specs.Tables.{Tables}
use Rattle.map_tables.specs.declared.kind.Kind.{Kind}
use Rattle.map_tables.specs.declared.kind.Kind.TheVariants as kind
use Rattle.lump_records.specs.declared.records.Vertex.{Vertex}
use Rattle.map_commands.specs.Spelling.{kind_of}
use Rattle.map_words.specs.Words.{is_numeral}
use Rattle.map_plane.specs.Found.{stands_at}
use Rattle.map_plane.specs.Meeting.{is_at, is_on}
use Rattle.map_plane.specs.Nearest.{sector_of_place}
use Rattle.map_plane.specs.Places.{placed_lines}
use Rattle.map_script.specs.Firsts.{first_of}
use Rattle.map_script.specs.Meant.{Meant, meant_by}
use Rattle.map_script.specs.Placings.{is_coordinate_word, place_of, placed_vertex}
use Rattle.map_script.specs.Referents.{wall_place}
use Rattle.map_script.specs.Scopes.{Scope, visible}
use Rattle.map_script.specs.declared.error.DrawError.{DrawError}
use Rattle.map_script.specs.declared.error.DrawError.TheVariants.{NotAReference, UnknownName, NothingAdded, NumberTooLarge, NothingThere}
use Rattle.map_script.specs.declared.referent.Referent.{Referent}
use Rattle.map_script.specs.declared.referent.Referent.TheVariants.{Room}
use Rattle.map_script.specs.declared.placing.Placing.{Placing}
use Rattle.lump_records.specs.Names.{is_digit}

-- a letter, A to Z or a to z
abbrev pub is_letter : ℕ → Bool
is_letter b = (nat_le 65 b && nat_le b 90) || (nat_le 97 b && nat_le b 122)

-- a letter, a digit or `_`
abbrev pub is_script_name_byte : ℕ → Bool
is_script_name_byte b = is_letter b || (is_digit b || (b == 95))

-- a letter, then letters, digits and `_`
abbrev pub is_script_name : List ℕ → Bool
is_script_name [] = false
is_script_name (b ∷ bs) = is_letter b && list_all is_script_name_byte bs

-- ---- References: NAME, NAME.KIND, NAME.WALL or KIND(X,Y), each with or without +N

-- a text cut at an index: the bytes before it and those after it; the whole text if there is no index
abbrev pub text_cut_at : List ℕ → Option ℕ → List ℕ × Option (List ℕ)
text_cut_at text None = (text, None)
text_cut_at text (Some i) = (take i text, Some (drop (i + 1) text))

-- a text cut at the first byte of this value
abbrev pub cut : ℕ → List ℕ → List ℕ × Option (List ℕ)
cut c text = text_cut_at text (position (λ b. b == c) text)

-- no part, or the word of a table or of a wall
abbrev pub is_kind_part : Option (List ℕ) → Bool
is_kind_part None = true
is_kind_part (Some w) = is_some (kind_of w) || is_some (wall_place w)

-- a number without a sign
abbrev pub is_natural_word : List ℕ → Bool
is_natural_word w = is_numeral w && list_all is_digit w

-- no part, or a number without a sign
abbrev pub is_sum_part : Option (List ℕ) → Bool
is_sum_part None = true
is_sum_part (Some w) = is_natural_word w

-- the number that digits stand for
abbrev pub value_of : List ℕ → ℕ
value_of digits = fold (λ n d. n * 10 + (d - 48)) 0 digits

-- the number that is added
abbrev pub added_by : Option (List ℕ) → ℕ
added_by None = 0
added_by (Some digits) = value_of digits

-- the line of a room's wall, by its place among the four
abbrev pub wall_behind : Referent → Option ℕ → Option ℕ → Option ℕ
wall_behind Room (Some first) (Some place) = Some (first + place)
wall_behind referent first place = None

-- the same of a name, if a room gave it
abbrev pub wall_line : Meant → Option ℕ → Option ℕ
wall_line meant place = wall_behind meant.referent meant.firsts.line place

-- the first item of a table, or the line of a wall
abbrev pub item_named : Meant → List ℕ → Option Kind → Option ℕ
item_named meant w (Some k) = first_of meant.firsts k
item_named meant w None = wall_line meant (wall_place w)

-- the sum, which must be at most 32767
abbrev pub sum_of : Option ℕ → ℕ → Result ℕ DrawError
sum_of None more = Err NothingAdded
sum_of (Some n) more = if nat_le (n + more) 32767 then Ok (n + more) else Err NumberTooLarge

-- the number that words and what is added stand for, if the words are a number without a sign
abbrev pub words_and : List ℕ → ℕ → Result ℕ DrawError
words_and words more =
    if is_natural_word words then sum_of (Some (value_of words)) more else Err NotAReference

-- the number that a name, its kind and its sum stand for
abbrev pub number_in : Option Meant → Option (List ℕ) → Option (List ℕ) → Result ℕ DrawError
number_in None kind more = Err UnknownName
number_in (Some meant) None more = words_and meant.words (added_by more)
number_in (Some meant) (Some w) more =
    sum_of (item_named meant w (kind_of w)) (added_by more)

-- the number that these parts of a reference stand for, or what is wrong with the reference
abbrev pub number_by : Scope → List ℕ → Option (List ℕ) → Option (List ℕ)
    → Result ℕ DrawError
number_by scope name kind more =
    if is_script_name name && (is_kind_part kind && is_sum_part more)
    then number_in (meant_by (visible scope) name) kind more
    else Err NotAReference

-- ---- KIND(X,Y)

-- the number of the item that is at a place, the least of several: a vertex or a thing that stands
-- there, a line that it lies on, the sector that it belongs to
abbrev pub number_at_place : Tables → Kind → Vertex → Option ℕ
number_at_place m kind.Vertex place = position (is_at place) m.vertices
number_at_place m kind.Sector place = sector_of_place m place
number_at_place m kind.Side place = None
number_at_place m kind.Line place = position (λ l. is_on l place) (placed_lines m)
number_at_place m kind.Thing place = position (stands_at place) m.things

-- whether items of the kind are at places
abbrev pub has_places : Kind → Bool
has_places kind.Side = false
has_places _ = true

-- the number of the item at a place, if it is one
abbrev pub number_placed : Tables → Kind → Option Vertex → Option ℕ
number_placed m k None = None
number_placed m k (Some place) = number_at_place m k place

-- the number of the item that is where the place that two numbers write is placed: none where no
-- place has them
abbrev pub number_there : Placing → Tables → Kind → List ℕ → List ℕ → Option ℕ
number_there p m k x y =
    if is_coordinate_word x && is_coordinate_word y
    then number_placed m k (placed_vertex p (place_of x y)) else None

-- the number of an item at a place and what is added, or NothingThere
abbrev pub sum_there : Option ℕ → ℕ → Result ℕ DrawError
sum_there None more = Err NothingThere
sum_there (Some n) more = sum_of (Some n) more

-- the number that KIND and X,Y stand for
abbrev pub number_by_place : Placing → Tables → Option Kind → List ℕ → Option (List ℕ)
    → Option (List ℕ) → Result ℕ DrawError
number_by_place p m None x y more = Err NotAReference
number_by_place p m (Some k) x None more = Err NotAReference
number_by_place p m (Some k) x (Some y) more =
    if has_places k && (is_numeral x && (is_numeral y && is_sum_part more))
    then sum_there (number_there p m k x y) (added_by more)
    else Err NotAReference

-- the same of what stands behind the `(`: X,Y and a `)` that ends it
abbrev pub number_behind_bracket : Placing → Tables → Option Kind → List ℕ × Option (List ℕ)
    → Option (List ℕ) → Result ℕ DrawError
number_behind_bracket p m k (xy, Some []) more =
    number_by_place p m k (cut 44 xy).0 (cut 44 xy).1 more
number_behind_bracket p m k _ more = Err NotAReference

-- the number that a reference without its +N stands for: with a `(` by its place, else by its name
abbrev pub number_of_base : Scope → Tables → List ℕ → List ℕ × Option (List ℕ)
    → Option (List ℕ) → Result ℕ DrawError
number_of_base scope m base (kind, None) more =
    number_by scope (cut 46 base).0 (cut 46 base).1 more
number_of_base scope m base (kind, Some rest) more =
    number_behind_bracket scope.placing m (kind_of kind) (cut 41 rest) more

-- the number that a reference stands for, given without its `$`
abbrev pub number_for : Scope → Tables → List ℕ → Result ℕ DrawError
number_for scope m text =
    number_of_base scope m (cut 43 text).0 (cut 40 (cut 43 text).0) (cut 43 text).1

-- whether a text is no reference at all
abbrev pub is_no_reference : Result ℕ DrawError → Bool
is_no_reference (Ok n) = false
is_no_reference (Err NotAReference) = true
is_no_reference (Err e) = false
