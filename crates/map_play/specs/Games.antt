-- Which things stand in one game. The engine puts a thing into the games of the skills that its flags 1, 2 and 4 name,
-- and a start into those of each skill (`P_SpawnMapThing`). Players begin at the starts 1 to 4, or in a deathmatch at
-- those of type 11. A thing with flag 16 stands only where several play, but there each other thing stands too.
use Rattle.std.specs.Prelude.{ℕ, Bool, ◌&&◌, ◌||◌, ◌==◌, ◌/◌, ◌%◌, not, List, [], ◌∷◌, ℤ, pos, unsigned_abs}
use Rattle.lump_records.specs.Runs.{is_among}
use Rattle.lump_records.specs.declared.records.Thing.{Thing}

-- where players begin
abbrev pub any_starts : List (ℤ × ℤ)
any_starts = (pos 1, pos 4) ∷ (pos 11, pos 11) ∷ []

-- where they begin in a deathmatch
abbrev pub deathmatch_starts : List (ℤ × ℤ)
deathmatch_starts = (pos 11, pos 11) ∷ []

-- the thing is a start
abbrev pub is_any_start : Thing → Bool
is_any_start t = is_among any_starts t.kind

-- the thing stands in games of a skill, given by its flag: 1, 2 or 4
abbrev pub is_on_skill : ℕ → Thing → Bool
is_on_skill flag t = is_any_start t || (unsigned_abs t.options / flag % 2 == 1)

-- there is a skill in whose games both things stand
abbrev pub share_skill : Thing → Thing → Bool
share_skill t u = (is_on_skill 1 t && is_on_skill 1 u) || (is_on_skill 2 t && is_on_skill 2 u)
    || (is_on_skill 4 t && is_on_skill 4 u)

-- the first thing is a start of deathmatches, and the other one a start of any kind: no game has players at both
abbrev pub are_other_starts : Thing → Thing → Bool
are_other_starts t u = is_among deathmatch_starts t.kind && is_any_start u

-- there is a game in which both things stand
abbrev pub share_game : Thing → Thing → Bool
share_game t u = share_skill t u && not (are_other_starts t u) && not (are_other_starts u t)
