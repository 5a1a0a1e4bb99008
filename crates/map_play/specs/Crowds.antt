-- Solid things that stand in each other's way. The engine lets no thing move to where its square overlaps that of a
-- solid thing, however high they stand (`PIT_CheckThing`).
use Rattle.std.specs.Prelude.{ℕ, ◌+◌, Bool, false, ◌&&◌, ◌==◌, not, length, slice_get}
use Rattle.std.specs.List.{list_any, range_with_len}
use Rattle.std.specs.Option.{option_map_or}
use Rattle.lump_records.specs.declared.records.Thing.{Thing}
use Rattle.lump_records.specs.Things.{thing_place}
use Rattle.map_tables.specs.Tables.{Tables}
use Rattle.map_plane.specs.Squares.{squares_overlap}
use Rattle.map_play.specs.declared.bodies.Body.{Body}
use Rattle.map_play.specs.Bodies.{body_of}
use Rattle.map_play.specs.Games.{share_game}

-- the second thing, with its body, is in the way of the first one: their squares overlap, and a game has both
unfoldable pub is_in_way : Thing → Body → Thing → Body → Bool
is_in_way t b u c =
    squares_overlap (b.radius + c.radius) (thing_place t) (thing_place u) && share_game t u

-- the second thing is solid, and in the way
abbrev pub is_solid_in_way : Thing → Body → Thing → Bool
is_solid_in_way t b u = option_map_or (is_in_way t b u) (body_of u) false

-- thing k is another solid thing than n, and in its way
unfoldable pub is_blocked_by : Tables → ℕ → Thing → Body → ℕ → Bool
is_blocked_by m n t b k =
    not (k == n) && option_map_or (is_solid_in_way t b) (slice_get m.things k) false

-- another solid thing is in the way of thing n
abbrev pub is_blocked : Tables → ℕ → Thing → Body → Bool
is_blocked m n t b = list_any (is_blocked_by m n t b) (range_with_len 0 (length m.things))
