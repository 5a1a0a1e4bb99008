-- What the fields of `Payloads` tell of.
use Rattle.std.specs.Prelude.{◌≡◌, ◌≤◌, ℕ, List, [], ◌∷◌, length, slice_range}
use Rattle.store_journal.specs.declared.payloads.Payloads.TheInside.{Inside}

-- the parts of the bytes from a place on that end at these places, one behind the other
abbrev pub parts_up_to : ℕ → List ℕ → List ℕ → List (List ℕ)
parts_up_to from [] bytes = []
parts_up_to from (end ∷ ends) bytes = slice_range bytes from end ∷ parts_up_to end ends bytes

-- these places rise from one to another, the last of them
abbrev pub RiseTo : ℕ → ℕ → List ℕ → Type 0
RiseTo last from [] = from ≡ last
RiseTo last from (end ∷ ends) = (from ≤ end) × RiseTo last end ends

-- the payloads, each up to its end
abbrev pub kept_payloads : Inside → List (List ℕ)
kept_payloads fields = parts_up_to 0 fields.ends.items fields.bytes.items

-- the last payload ends where the bytes do
abbrev pub EndWithBytes : Inside → Type 0
EndWithBytes fields = RiseTo (length fields.bytes.items) 0 fields.ends.items
