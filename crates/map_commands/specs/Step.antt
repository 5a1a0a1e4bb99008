-- What a command of a map is, why it is refused, the map that it leaves, its number, and what it adds and
-- drops.
use Rattle.std.specs.Prelude.{ℕ, Bool, List, [], length, ◌≤◌, pos, ◌<ℤ◌, ◌+◌, ◌*◌, Option, Some, None}
use Rattle.map_tables.specs.Tables.{Tables}
use Rattle.map_tables.specs.EditFaults.{edit_faults}
use Rattle.map_tables.specs.Edits.{after_edit, edit_number, with_name, edit_need}
use Rattle.map_commands.specs.Rooms.{with_room, room_faults}
use Rattle.map_commands.specs.Splits.{with_split, split_faults}
use Rattle.map_commands.specs.declared.command.Command.{Command}
use Rattle.map_commands.specs.declared.command.Command.TheVariants.{Name, Edit, Room, Split}
use Rattle.lump_records.specs.Drawing.{IsBetween, IsCoordinate}
use Rattle.lump_records.specs.Names.{IsNamed, is_marker, is_name}
use Rattle.map_tables.specs.Ranges.{IsEdit, IsShort, IsVertex}
use Rattle.map_commands.specs.declared.command.RoomPlan.{RoomPlan}
use Rattle.map_tables.specs.declared.edit.Edit.TheVariants as edit
use Rattle.map_tables.specs.declared.edit.Need.{Need}
use Rattle.map_tables.specs.declared.kind.Kind.{Kind}
use Rattle.map_tables.specs.Outcomes.{no_need}

-- ---- Its numbers and names

-- each number and name of the room is in its range
pub record IsPlan (r : RoomPlan) : Type 0 where
  pub west : IsCoordinate r.west
  pub south : IsCoordinate r.south
  pub east : IsCoordinate r.east
  pub north : IsCoordinate r.north
  pub floor : IsShort r.floor
  pub ceiling : IsShort r.ceiling
  pub floor_name : IsNamed is_name r.floor_name
  pub ceiling_name : IsNamed is_name r.ceiling_name
  pub wall : IsNamed is_name r.wall
  pub light : IsBetween (pos 0) (pos 255) r.light

-- and the room has some width and some height
pub record IsRoom (r : RoomPlan) : Type 0 where
  pub plan : IsPlan r
  pub wide : r.west <ℤ r.east
  pub high : r.south <ℤ r.north

-- each number and name of the command is in its range
abbrev pub InRange : Command → Type 0
InRange (Name n) = IsNamed is_marker n
InRange (Edit e) = IsEdit e
InRange (Room r) = IsRoom r
InRange (Split s) = (s.line ≤ 32766) × IsVertex s.at

-- ---- What it does

-- why a command is refused, by rising code
abbrev pub faults : Tables → Command → List (ℕ × Bool)
faults m (Name name) = []
faults m (Edit e) = edit_faults m e
faults m (Room r) = room_faults m r
faults m (Split s) = split_faults m s

-- the map that a command leaves, where it is accepted
abbrev pub after : Tables → Command → Tables
after m (Name name) = with_name m name
after m (Edit e) = after_edit m e
after m (Room r) = with_room m r
after m (Split s) = with_split m s

-- the number that is answered: that of the item, of a room's sector, of a split's new line
abbrev pub number_of : Tables → Command → ℕ
number_of m (Name name) = 0
number_of m (Edit e) = edit_number m e
number_of m (Room r) = length m.sectors
number_of m (Split s) = length m.lines

-- ---- What it adds and drops

-- how many items a command adds to each table
abbrev pub need_of : Command → Need
need_of (Edit e) = edit_need e
need_of (Room r) = record no_need { vertices = 4; sectors = 1; sides = 4; lines = 4 }
need_of (Split s) = record no_need { vertices = 1; lines = 1 }
need_of (Name name) = no_need

-- by how many bytes so many items lengthen a body
abbrev pub growth_of : Need → ℕ
growth_of need =
    10 * need.things + 14 * need.lines + 30 * need.sides + 4 * need.vertices + 26 * need.sectors

-- the kind and the number of the item that a command drops
abbrev pub dropped_of : Command → Option (Kind × ℕ)
dropped_of (Edit (edit.Drop k n)) = Some (k, n)
dropped_of c = None
