-- How many starts a map has.
use Rattle.std.specs.Prelude.{ℕ, Bool, ◌&&◌, nat_lt, count_by, pos, unsigned_abs, int_le}
use Rattle.std.specs.Ordering.{int_eq}
use Rattle.lump_records.specs.declared.records.Thing.{Thing}
use Rattle.map_tables.specs.Tables.{Tables}

-- the thing has the type
abbrev pub is_of_type : ℕ → Thing → Bool
is_of_type kind t = int_eq t.kind (pos kind)

-- how many things have the type
abbrev pub things_of_type : Tables → ℕ → ℕ
things_of_type m kind = count_by (is_of_type kind) m.things

-- the thing is a player's start
abbrev pub is_player_start : Thing → Bool
is_player_start t = int_le (pos 1) t.kind && int_le t.kind (pos 4)

-- the thing is the start of a player who has another one
abbrev pub starts_twice : Tables → Thing → Bool
starts_twice m t = is_player_start t && nat_lt 1 (things_of_type m (unsigned_abs t.kind))
