-- Teleporters and their landings, things of type 14.
use Rattle.std.specs.Prelude.{ℕ, Bool, ◌&&◌, ◌==◌, not, if◌then◌else◌, slice_get, option_and_then}
use Rattle.std.specs.List.{list_any}
use Rattle.std.specs.Option.{option_map_or}
use Rattle.lump_records.specs.declared.records.Line.{Line}
use Rattle.lump_records.specs.declared.records.Thing.{Thing}
use Rattle.lump_records.specs.declared.records.Vertex.{Vertex}
use Rattle.lump_records.specs.Things.{thing_place}
use Rattle.map_tables.specs.Tables.{Tables}
use Rattle.map_plane.specs.Nearest.{sector_of_place}
use Rattle.map_play.specs.Specials.{teleporters, landings, has_special, has_type}
use Rattle.map_play.specs.Tags.{tag_of}

-- the tag of the sector that a place belongs to, or 0 in the void
abbrev pub tag_at : Tables → Vertex → ℕ
tag_at m p =
    option_map_or tag_of (option_and_then (slice_get m.sectors) (sector_of_place m p)) 0

-- the tag of the sector that a landing belongs to; 0 for any other thing
abbrev pub landing_tag : Tables → Thing → ℕ
landing_tag m t = if has_type landings t then tag_at m (thing_place t) else 0

-- the line is a teleporter, sectors have its tag, which isn't 0, and no landing belongs to one of them
abbrev pub leads_nowhere : Tables → Line → Bool
leads_nowhere m l =
    has_special teleporters l && not (l.tag == 0)
    && list_any (λ s. tag_of s == l.tag) m.sectors
    && not (list_any (λ t. landing_tag m t == l.tag) m.things)
