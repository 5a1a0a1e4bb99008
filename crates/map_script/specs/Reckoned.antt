-- The numbers of a sum: they have 64 bits, and a quotient is whole.
use Rattle.std.specs.Prelude.{ℕ, Bool, false, ◌^◌, ◌==◌, nat_lt, if◌then◌else◌, List, [], ◌∷◌, ℤ, pos, negsuc, ◌+ℤ◌, ◌-ℤ◌, ◌*ℤ◌, neg_ℤ, Option, Some, None, Result, Ok, Err, int_div, int_rem}
use Rattle.map_tables.specs.Tables.{Tables}
use Rattle.map_tables.specs.declared.kind.Kind.{Kind}
use Rattle.map_words.specs.Words.{is_numeral}
use Rattle.map_script.specs.Names.{number_placed, value_of}
use Rattle.map_script.specs.Placings.{coordinate_of, placed_vertex}
use Rattle.map_script.specs.declared.error.DrawError.{DrawError}
use Rattle.map_script.specs.declared.error.DrawError.TheVariants.{NotANumber, NothingThere, NotWhole, TooGreat}
use Rattle.map_script.specs.declared.placing.Placing.{Placing}

-- whether a number has 64 bits
abbrev pub fits_64 : ℤ → Bool
fits_64 (pos n) = nat_lt n (2 ^ 63)
fits_64 (negsuc n) = nat_lt n (2 ^ 63)

-- a number, if it has 64 bits
abbrev pub fitted : ℤ → Result ℤ DrawError
fitted z = if fits_64 z then Ok z else Err TooGreat

-- whether a number is 0
abbrev pub is_zero : ℤ → Bool
is_zero (pos n) = n == 0
is_zero (negsuc n) = false

-- a quotient that leaves no remainder
abbrev pub if_whole : Result ℤ DrawError → ℤ → Result ℤ DrawError
if_whole (Err e) rest = Err e
if_whole (Ok n) rest = if is_zero rest then Ok n else Err NotWhole

-- the whole number that a division gives
abbrev pub quotient : ℤ → ℤ → Result ℤ DrawError
quotient x y =
    if is_zero y then Err NotWhole else if_whole (fitted (int_div x y)) (int_rem x y)

-- what a sign makes of two numbers
abbrev pub reckoned : ℕ → ℤ → ℤ → Result ℤ DrawError
reckoned sign x y =
    if sign == 43 then fitted (x +ℤ y)
    else (if sign == 45 then fitted (x -ℤ y)
    else (if sign == 42 then fitted (x *ℤ y) else quotient x y))

-- the same of two parts, or the error of the leftmost
abbrev pub reckoned_of : ℕ → Result ℤ DrawError → Result ℤ DrawError → Result ℤ DrawError
reckoned_of sign (Err e) y = Err e
reckoned_of sign (Ok x) (Err e) = Err e
reckoned_of sign (Ok x) (Ok y) = reckoned sign x y

-- a part with the other sign
abbrev pub negated : Result ℤ DrawError → Result ℤ DrawError
negated (Err e) = Err e
negated (Ok x) = fitted (neg_ℤ x)

-- the number that a numeral writes
abbrev pub signed_number : List ℕ → Result ℤ DrawError
signed_number [] = Ok (pos 0)
signed_number (b ∷ bs) =
    if b == 45 then negated (fitted (pos (value_of bs))) else fitted (pos (value_of (b ∷ bs)))

-- the number that a text is, if it is a numeral
abbrev pub number_in_text : List ℕ → Result ℤ DrawError
number_in_text text = if is_numeral text then signed_number text else Err NotANumber

-- a number of a reference
abbrev pub counted : Result ℕ DrawError → Result ℤ DrawError
counted (Ok n) = Ok (pos n)
counted (Err e) = Err e

-- ---- Items at places

-- the number of an item that is there
abbrev pub there : Option ℕ → Result ℤ DrawError
there None = Err NothingThere
there (Some n) = Ok (pos n)

-- the number of the item of a kind where a place is placed
abbrev pub item_there : Placing → Tables → Kind → Option ℤ → Option ℤ → Result ℤ DrawError
item_there p m k None y = Err NothingThere
item_there p m k (Some x) None = Err NothingThere
item_there p m k (Some x) (Some y) =
    there (number_placed m k (placed_vertex p (record { x = x; y = y })))

-- the same of two parts, or the error of the leftmost
abbrev pub item_of_place : Placing → Tables → Kind → Result ℤ DrawError → Result ℤ DrawError
    → Result ℤ DrawError
item_of_place p m k (Err e) y = Err e
item_of_place p m k (Ok x) (Err e) = Err e
item_of_place p m k (Ok x) (Ok y) = item_there p m k (coordinate_of x) (coordinate_of y)
