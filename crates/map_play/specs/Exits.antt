-- What ends a level: a line's special, sector special 11, or the death of the boss of a level's name.
use Rattle.std.specs.Prelude.{ℕ, Bool, ◌&&◌, ◌||◌, List, codes, bytes_eq}
use Rattle.std.specs.List.{list_any}
use Rattle.lump_records.specs.Names.{name_text}
use Rattle.lump_records.specs.Runs.{is_among}
use Rattle.lump_records.specs.declared.records.Name8.{Name8}
use Rattle.lump_records.specs.declared.records.Sector.{Sector}
use Rattle.lump_records.specs.declared.records.Thing.{Thing}
use Rattle.map_tables.specs.Tables.{Tables}
use Rattle.map_play.specs.Specials.{exits, has_special, has_type, last_sectors, brains, cyberdemons, masterminds}

-- a player who is almost dead there ends the level
abbrev pub is_last_sector : Sector → Bool
is_last_sector s = is_among last_sectors s.special

-- the level has the name
abbrev pub is_level_of_name : List ℕ → Name8 → Bool
is_level_of_name text name = bytes_eq (name_text name) text

-- the thing's death ends a level of the name: a brain's in any, a cyberdemon's in E2M8, a mastermind's in E3M8
abbrev pub is_last_boss : Name8 → Thing → Bool
is_last_boss name t =
    has_type brains t
    || (is_level_of_name (codes "E2M8") name && has_type cyberdemons t)
    || (is_level_of_name (codes "E3M8") name && has_type masterminds t)

-- something ends the level
abbrev pub has_exit : Tables → Bool
has_exit m =
    list_any (has_special exits) m.lines || list_any is_last_sector m.sectors
    || list_any (is_last_boss m.name) m.things
