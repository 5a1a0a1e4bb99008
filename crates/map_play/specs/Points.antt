-- The solid things of a map as points, so that bands can hold them, and a thing is compared only with those near it.
use Rattle.std.specs.Prelude.{ℕ, ◌+◌, Bool, false, ◌&&◌, is_some, List, length, filter, map, slice_get, pos}
use Rattle.std.specs.List.{range_with_len}
use Rattle.std.specs.Option.{option_map_or}
use Rattle.lump_records.specs.declared.records.Thing.{Thing}
use Rattle.lump_records.specs.declared.records.Vertex.{Vertex}
use Rattle.lump_records.specs.Things.{thing_place}
use Rattle.map_tables.specs.Tables.{Tables}
use Rattle.map_plane.specs.declared.places.PlacedLine.{PlacedLine}
use Rattle.map_plane.specs.Squares.{squares_overlap}
use Rattle.map_play.specs.declared.bodies.Body.{Body}
use Rattle.map_play.specs.Bodies.{body_of}
use Rattle.map_play.specs.Crowds.{is_blocked_by}

-- there is a thing k, and it is solid
abbrev pub is_solid_at : Tables → ℕ → Bool
is_solid_at m k = option_map_or (λ u. is_some (body_of u)) (slice_get m.things k) false

-- where thing k stands, or the origin past the last one
abbrev pub place_at : Tables → ℕ → Vertex
place_at m k = option_map_or thing_place (slice_get m.things k) (record { x = pos 0; y = pos 0 })

-- thing k as a line of no length, at its place
abbrev pub solid_point : Tables → ℕ → PlacedLine
solid_point m k = record { number = k; from = place_at m k; to = place_at m k; is_wall = false }

-- the solid things as such points
abbrev pub solid_points : Tables → List PlacedLine
solid_points m = map (solid_point m) (filter (is_solid_at m) (range_with_len 0 (length m.things)))

-- the widest body, with a radius of 128, would reach from the place to the thing
abbrev pub is_near : Thing → Body → Vertex → Bool
is_near t b p = squares_overlap (b.radius + 128) (thing_place t) p

-- the point is near thing n, and its thing is another solid one in the way
unfoldable pub is_blocked_at : Tables → ℕ → Thing → Body → PlacedLine → Bool
is_blocked_at m n t b l = is_near t b l.from && is_blocked_by m n t b l.number
