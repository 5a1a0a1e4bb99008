-- Players and monsters that are stuck where they stand: the engine would let nothing move to there, nor to where a step
-- leads.
use Rattle.std.specs.Prelude.{ℕ, Bool, false, ◌&&◌, ◌||◌, slice_get, ℤ}
use Rattle.std.specs.List.{list_all}
use Rattle.std.specs.Option.{option_map_or}
use Rattle.lump_records.specs.declared.records.Thing.{Thing}
use Rattle.map_tables.specs.Tables.{Tables}
use Rattle.map_play.specs.declared.bodies.Body.{Body}
use Rattle.map_play.specs.Bodies.{body_of}
use Rattle.map_play.specs.Crowds.{is_blocked}
use Rattle.map_play.specs.Games.{share_skill}
use Rattle.map_play.specs.Steps.{moved, steps}
use Rattle.map_play.specs.Walls.{is_walled_in}

-- thing n with this body isn't free: a line that stops it or another solid thing of its game reaches into its square
abbrev pub is_held : Tables → ℕ → Thing → Body → Bool
is_held m n t b = is_walled_in m t b || is_blocked m n t b

-- thing n isn't free a step further on
abbrev pub is_held_after : Tables → ℕ → Thing → Body → ℤ × ℤ → Bool
is_held_after m n t b step = is_held m n (moved t step) b

-- thing n moves of itself and stands in some game, but isn't free, and none of its steps frees it
abbrev pub is_fixed : Tables → ℕ → Thing → Body → Bool
is_fixed m n t b =
    b.moves && share_skill t t && is_held m n t b
    && list_all (is_held_after m n t b) (steps b)

-- thing n is stuck: it is a player's start or a monster, stands in some game, and neither its place nor any that one of
-- its steps leads to is free
abbrev pub is_stuck : Tables → ℕ → Bool
is_stuck m n =
    option_map_or (λ t. option_map_or (is_fixed m n t) (body_of t) false)
    (slice_get m.things n) false
