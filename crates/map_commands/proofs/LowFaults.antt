-- The fault of places is 1, 2 or 15: none is as great as the numbers behind those of commands.
use Rattle.std.proofs.Common.{ℕ, ℤ, ◌≤◌, Bool, true, false, cond, List, [], ◌∷◌, Option, None, Some, arith}
use Rattle.std.specs.Prelude.{IfSome, ◌&&◌, int_le, int_lt, pos}
use Rattle.map_tables.specs.Ranges.{last_of}
use Rattle.map_tables.specs.declared.kind.Kind.{Kind}
use Rattle.map_commands.specs.Places.{Place, Number, NumberOrNone, Named, fault_at, prior_fault, has_form, is_form_fault, place_fault, places_fault, range_fault, room_places}
use Rattle.map_commands.specs.Rooms.{flat_fault, or_else, room_fault}
use Rattle.map_commands.specs.Spelling.{drop_fault, kind_fault, kind_of}
use Rattle.map_words.specs.Words.{is_numeral, numeral_value}

-- no fault, or one of at most 15
abbrev pub IsLow : Option ℕ → Type 0
IsLow fault = IfSome fault (λ code. code ≤ 15)

-- either way
pub low_either : (t : Bool) (a b : Option ℕ) → IsLow a → IsLow b → IsLow (cond t a b)
low_either true a b low other = low
low_either false a b low other = other

pub low_one : IsLow (Some 1)
low_one = omega arith

range_low : (low high : ℤ) (w : List ℕ) → IsLow (range_fault low high w)
range_low low high w = low_either (int_le low (numeral_value w) && int_le (numeral_value w) high) None (Some 2) tt (omega arith)

at_low : (p : Place) (w : List ℕ) → IsLow (fault_at p w)
at_low (Number low high) w = range_low low high w
at_low (NumberOrNone low high) w = low_either (is_numeral w) (range_fault low high w) None (range_low low high w) tt
at_low (Named test) w = low_either (test w) None (Some 15) tt (omega arith)

place_low : (p : Place) (w : List ℕ) → IsLow (place_fault p w)
place_low p w = low_either (has_form p w) (fault_at p w) (Some 1) (at_low p w) low_one

first_low : (a b : Option ℕ) → IsLow a → IsLow b → IsLow (prior_fault a b)
first_low None b low other = other
first_low (Some code) b low other = low_either (is_form_fault b) (Some 1) (Some code) low_one low

pub places_low : (ps : List Place) (ws : List (List ℕ)) → IsLow (places_fault ps ws)
places_low [] [] = tt
places_low [] (w ∷ ws) = low_one
places_low (p ∷ ps) [] = low_one
places_low (p ∷ ps) (w ∷ ws) = first_low (place_fault p w) (places_fault ps ws) (place_low p w) (places_low ps ws)

flat_low : (ws : List (List ℕ)) → IsLow (flat_fault ws)
flat_low [] = tt
flat_low (a ∷ []) = tt
flat_low (a ∷ b ∷ []) = tt
flat_low (a ∷ b ∷ c ∷ []) = tt
flat_low (a ∷ b ∷ c ∷ d ∷ ws) =
    low_either (int_lt (numeral_value a) (numeral_value c) && int_lt (numeral_value b) (numeral_value d)) None (Some 2) tt (omega arith)

else_low : (a b : Option ℕ) → IsLow a → IsLow b → IsLow (or_else a b)
else_low None b low other = other
else_low (Some code) b low other = low

-- a room's
pub room_low : (ws : List (List ℕ)) → IsLow (room_fault ws)
room_low ws = else_low (places_fault room_places ws) (flat_fault ws) (places_low room_places ws) (flat_low ws)

kind_low : (k : Option Kind) (ws : List (List ℕ)) → IsLow (kind_fault k ws)
kind_low None ws = low_one
kind_low (Some k) ws = places_low (Number (pos 0) (pos (last_of k)) ∷ []) ws

-- that of a table and a number
pub drop_low : (ws : List (List ℕ)) → IsLow (drop_fault ws)
drop_low [] = low_one
drop_low (k ∷ ws) = kind_low (kind_of k) ws
