-- The value that the fields of `Places` represent, and their invariant.
use Rattle.std.specs.Prelude.{◌+◌, ◌≤◌}
use Rattle.std.specs.HashSet.{keys, hash_set_len, spare}
use Rattle.map_tables.specs.declared.map.places.Places.TheInside.{Inside}
use Rattle.map_tables.specs.Places.{PlacesView}

-- the places that are marked, and how many may be
abbrev pub places_of : Inside → PlacesView
places_of a = record { marked = keys a.taken; room = a.room }

-- the set has the promised room, and no more places than that
pub record KeepsRoom (a : Inside) : Type 0 where
  pub there : a.room ≤ hash_set_len a.taken + spare a.taken
  pub within : hash_set_len a.taken ≤ a.room
