-- Doors that a key opens, and keys.
use Rattle.std.specs.Prelude.{◌≡◌, Bool, ◌&&◌, ◌||◌, not, List, ℤ}
use Rattle.std.specs.List.{list_any}
use Rattle.lump_records.specs.declared.records.Line.{Line}
use Rattle.lump_records.specs.declared.records.Thing.{Thing}
use Rattle.map_play.specs.declared.locks.Keys.{Keys}
use Rattle.map_play.specs.Specials.{has_special, has_type, blue_doors, yellow_doors, red_doors, blue_keys, yellow_keys, red_keys}

-- one of the things is such a key
abbrev pub has_key : List Thing → List (ℤ × ℤ) → Bool
has_key things keys = list_any (has_type keys) things

-- the line is a door that such a key opens, and none of the things is one
abbrev pub lacks_key : List Thing → List (ℤ × ℤ) → List (ℤ × ℤ) → Line → Bool
lacks_key things doors keys l = has_special doors l && not (has_key things keys)

-- the line is a door that a key opens, and none of the things is such a key
abbrev pub stays_locked : List Thing → Line → Bool
stays_locked things l =
    lacks_key things blue_doors blue_keys l
    || lacks_key things yellow_doors yellow_keys l
    || lacks_key things red_doors red_keys l

-- of which colours there are keys among the things
pub record AreKeys (things : List Thing) (k : Keys) : Type 0 where
  pub blue : k.blue ≡ has_key things blue_keys
  pub yellow : k.yellow ≡ has_key things yellow_keys
  pub red : k.red ≡ has_key things red_keys
