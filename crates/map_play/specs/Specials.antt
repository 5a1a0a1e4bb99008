-- Specials and types by what the engine does with them, as the "Unofficial Doom Specs" 1.666 list them.
use Rattle.std.specs.Prelude.{ℕ, Bool, List, [], ◌∷◌, ℤ, pos, if◌then◌else◌}
use Rattle.lump_records.specs.declared.records.Thing.{Thing}
use Rattle.lump_records.specs.declared.records.Line.{Line}
use Rattle.lump_records.specs.Runs.{is_among}

-- doors that open by hand
abbrev pub doors : List (ℤ × ℤ)
doors = (pos 1, pos 1) ∷ (pos 26, pos 28) ∷ (pos 31, pos 34) ∷ (pos 117, pos 118) ∷ []

-- the donut: a pool sinks, and a ring round it rises
abbrev pub donuts : List (ℤ × ℤ)
donuts = (pos 9, pos 9) ∷ []

-- walls that scroll
abbrev pub scrolls : List (ℤ × ℤ)
scrolls = (pos 48, pos 48) ∷ []

-- teleporters
abbrev pub teleporters : List (ℤ × ℤ)
teleporters = (pos 39, pos 39) ∷ (pos 97, pos 97) ∷ (pos 125, pos 126) ∷ []

-- floors and platforms that rise to the next higher floor round them
abbrev pub raisers : List (ℤ × ℤ)
raisers =
    (pos 18, pos 18) ∷ (pos 20, pos 20) ∷ (pos 22, pos 22) ∷ (pos 47, pos 47) ∷ (pos 68, pos 69)
    ∷ (pos 95, pos 95) ∷ (pos 119, pos 119) ∷ (pos 128, pos 132) ∷ []

-- lines that end the level
abbrev pub exits : List (ℤ × ℤ)
exits = (pos 11, pos 11) ∷ (pos 51, pos 52) ∷ (pos 124, pos 124) ∷ []

-- doors that the blue key opens
abbrev pub blue_doors : List (ℤ × ℤ)
blue_doors = (pos 26, pos 26) ∷ (pos 32, pos 32) ∷ (pos 99, pos 99) ∷ (pos 133, pos 133) ∷ []

-- doors that the yellow key opens
abbrev pub yellow_doors : List (ℤ × ℤ)
yellow_doors = (pos 27, pos 27) ∷ (pos 34, pos 34) ∷ (pos 136, pos 137) ∷ []

-- doors that the red key opens
abbrev pub red_doors : List (ℤ × ℤ)
red_doors = (pos 28, pos 28) ∷ (pos 33, pos 33) ∷ (pos 134, pos 135) ∷ []

-- blue keys: the card and the skull
abbrev pub blue_keys : List (ℤ × ℤ)
blue_keys = (pos 5, pos 5) ∷ (pos 40, pos 40) ∷ []

-- yellow keys
abbrev pub yellow_keys : List (ℤ × ℤ)
yellow_keys = (pos 6, pos 6) ∷ (pos 39, pos 39) ∷ []

-- red keys
abbrev pub red_keys : List (ℤ × ℤ)
red_keys = (pos 13, pos 13) ∷ (pos 38, pos 38) ∷ []

-- where a teleporter lands
abbrev pub landings : List (ℤ × ℤ)
landings = (pos 14, pos 14) ∷ []

-- the brain of a boss, whose death ends the level
abbrev pub brains : List (ℤ × ℤ)
brains = (pos 88, pos 88) ∷ []

-- cyberdemons
abbrev pub cyberdemons : List (ℤ × ℤ)
cyberdemons = (pos 16, pos 16) ∷ []

-- spider masterminds
abbrev pub masterminds : List (ℤ × ℤ)
masterminds = (pos 7, pos 7) ∷ []

-- sectors that end the level as a player in them is almost dead
abbrev pub last_sectors : List (ℤ × ℤ)
last_sectors = (pos 11, pos 11) ∷ []

-- the line's special is one of these
abbrev pub has_special : List (ℤ × ℤ) → Line → Bool
has_special runs l = is_among runs (pos l.special)

-- the line's tag if its special is one of these, otherwise 0
abbrev pub special_tag : List (ℤ × ℤ) → Line → ℕ
special_tag runs l = if has_special runs l then l.tag else 0

-- the thing's type is one of these
abbrev pub has_type : List (ℤ × ℤ) → Thing → Bool
has_type runs t = is_among runs t.kind
