-- The rules of a level, and the items of a map that break them: a list by rule, then by number.
use Rattle.std.specs.Prelude.{ℕ, Bool, false, ◌&&◌, ◌||◌, ◌==◌, not, nat_lt, List, [], ◌∷◌, length, map, filter, flat_map, slice_get, int_lt, None}
use Rattle.std.specs.List.{range_with_len}
use Rattle.std.specs.Option.{option_map_or}
use Rattle.lump_records.specs.declared.records.Line.{Line}
use Rattle.lump_records.specs.declared.records.Side.{Side}
use Rattle.lump_records.specs.declared.records.Sector.{Sector}
use Rattle.lump_records.specs.declared.records.Thing.{Thing}
use Rattle.lump_records.specs.Sides.{is_two_sided}
use Rattle.map_tables.specs.Tables.{Tables}
use Rattle.map_checks.specs.Textures.{side_in, is_missing}
use Rattle.map_lint.specs.declared.warning.Rule.{Rule}
use Rattle.map_lint.specs.declared.warning.Rule.TheVariants.{PlayerStart, OneStart, DeathmatchStarts, CeilingAboveFloor, TagGiven, TagOfSector, TagOfLine, LineSpecialKnown, SectorSpecialKnown, ThingKnown, TextureShows, SectorInside, LinesApart, ThingInside, DoorBacked, DonutBacked, ScrollsFit, TeleportLands, LevelEnds, KeyGiven, NeighboursFit, ThingFree, FlatKnown}
use Rattle.map_lint.specs.declared.warning.Warning.{Warning}
use Rattle.map_lint.specs.Known.{is_known_thing, is_known_line, is_known_sector}
use Rattle.map_lint.specs.Starts.{things_of_type, starts_twice}
use Rattle.map_lint.specs.Tags.{tag_missing, tag_of_no_sector, tag_of_no_line}
use Rattle.map_lint.specs.Areas.{is_inside_out}
use Rattle.map_play.specs.Donuts.{is_donut_gap}
use Rattle.map_play.specs.Exits.{has_exit}
use Rattle.map_play.specs.Locks.{stays_locked}
use Rattle.map_play.specs.Neighbours.{overfills_list}
use Rattle.map_play.specs.Scrolls.{is_scroll_too_many}
use Rattle.map_play.specs.Doors.{door_without_back}
use Rattle.map_play.specs.Stuck.{is_stuck}
use Rattle.map_play.specs.Teleports.{leads_nowhere}
use Rattle.lump_records.specs.Things.{thing_place}
use Rattle.map_plane.specs.Places.{placed_lines}
use Rattle.map_plane.specs.Meeting.{meets_another}
use Rattle.map_plane.specs.Outside.{is_place_outside}
use Rattle.map_lint.specs.Whereabouts.{whereabouts_of}

-- there is an item n, and it passes the test
abbrev pub at_item : {X : Type 0} → (X → Bool) → List X → ℕ → Bool
at_item test xs n = option_map_or test (slice_get xs n) false

-- the side has an upper or a lower texture
abbrev pub names_wall : Side → Bool
names_wall s = not (is_missing s.upper) || not (is_missing s.lower)

-- the line is two-sided with the same sector on both sides, so that neither an upper nor a lower wall is visible,
-- and a side of it has a texture for one
abbrev pub texture_hidden : Tables → Line → Bool
texture_hidden m l =
    is_two_sided l && ((side_in m l.right).sector == (side_in m l.left).sector)
    && (names_wall (side_in m l.right) || names_wall (side_in m l.left))

-- the rule is one that needs only a number, and the number breaks it: it is player 1, a count of deathmatch starts,
-- no exit, or the number of a sector, a line or a thing
abbrev pub number_breaks : Tables → Rule → ℕ → Bool
number_breaks m PlayerStart n = (n == 1) && (things_of_type m 1 == 0)
number_breaks m DeathmatchStarts n = nat_lt 0 n && (things_of_type m 11 == n)
number_breaks m SectorInside n = is_inside_out m n
number_breaks m LinesApart n = meets_another (placed_lines m) n
number_breaks m DonutBacked n = is_donut_gap m n
number_breaks m ScrollsFit n = is_scroll_too_many m n
number_breaks m LevelEnds n = (n == 0) && not (has_exit m)
number_breaks m NeighboursFit n = overfills_list m n
number_breaks m ThingFree n = is_stuck m n
number_breaks m _ n = false

-- the sector breaks the rule
abbrev pub sector_breaks : Tables → Rule → Sector → Bool
sector_breaks m CeilingAboveFloor s = int_lt s.ceiling s.floor
sector_breaks m TagOfLine s = tag_of_no_line m s
sector_breaks m SectorSpecialKnown s = not (is_known_sector s)
sector_breaks m _ s = false

-- the line breaks the rule
abbrev pub line_breaks : Tables → Rule → Line → Bool
line_breaks m TagGiven l = tag_missing l
line_breaks m TagOfSector l = tag_of_no_sector m l
line_breaks m LineSpecialKnown l = not (is_known_line l)
line_breaks m TextureShows l = texture_hidden m l
line_breaks m DoorBacked l = door_without_back l
line_breaks m TeleportLands l = leads_nowhere m l
line_breaks m KeyGiven l = stays_locked m.things l
line_breaks m _ l = false

-- the thing breaks the rule
abbrev pub thing_breaks : Tables → Rule → Thing → Bool
thing_breaks m OneStart t = starts_twice m t
thing_breaks m ThingKnown t = not (is_known_thing t)
thing_breaks m ThingInside t = is_place_outside (placed_lines m) (thing_place t)
thing_breaks m _ t = false

-- number n breaks the rule, or the item with that number in the table that the rule is about does
unfoldable pub breaks : Tables → Rule → ℕ → Bool
breaks m rule n =
    number_breaks m rule n || at_item (sector_breaks m rule) m.sectors n
    || at_item (line_breaks m rule) m.lines n
    || at_item (thing_breaks m rule) m.things n

-- how many numbers are tested for the rule: for player 1, for fewer than four deathmatch starts, for no exit, or for
-- the items of a table
unfoldable pub reach : Tables → Rule → ℕ
reach m PlayerStart = 2
reach m DeathmatchStarts = 4
reach m CeilingAboveFloor = length m.sectors
reach m TagOfLine = length m.sectors
reach m SectorSpecialKnown = length m.sectors
reach m SectorInside = length m.sectors
reach m NeighboursFit = length m.sectors
reach m FlatKnown = length m.sectors
reach m OneStart = length m.things
reach m ThingKnown = length m.things
reach m ThingInside = length m.things
reach m ThingFree = length m.things
reach m LevelEnds = 1
reach m _ = length m.lines

-- the rules in their order
abbrev pub rules_in_order : List Rule
rules_in_order =
    PlayerStart ∷ OneStart ∷ DeathmatchStarts ∷ CeilingAboveFloor ∷ TagGiven ∷ TagOfSector
    ∷ TagOfLine
    ∷ LineSpecialKnown ∷ SectorSpecialKnown ∷ ThingKnown ∷ TextureShows ∷ SectorInside ∷ LinesApart
    ∷ ThingInside ∷ DoorBacked ∷ DonutBacked ∷ ScrollsFit ∷ TeleportLands ∷ LevelEnds ∷ KeyGiven
    ∷ NeighboursFit ∷ ThingFree ∷ []

-- the warning that a number breaks the rule
abbrev pub warning_of : Tables → Rule → ℕ → Warning
warning_of m rule n = record {
  rule = rule;
  number = n;
  whereabouts = whereabouts_of m rule n;
  shown = None;
}

-- a warning for each number that breaks the rule
abbrev pub breaches : Tables → Rule → List Warning
breaches m rule = map (warning_of m rule) (filter (breaks m rule) (range_with_len 0 (reach m rule)))

-- all warnings
abbrev pub warnings : Tables → List Warning
warnings m = flat_map (breaches m) rules_in_order
