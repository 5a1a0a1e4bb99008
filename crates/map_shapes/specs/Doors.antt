-- The commands that make a sector a door: its ceiling on its floor, and each line of its border with
-- what a player sees of the door.
use Rattle.std.specs.Prelude.{ℕ, Bool, true, false, ◌+◌, ◌≤◌, ◌/◌, ◌%◌, ◌&&◌, ◌==◌, not, is_some, nat_lt, if◌then◌else◌, List, [], ◌∷◌, ◌++◌, length, count_by, sum_by, Option, Some, None, slice_get}
use Rattle.std.specs.List.{list_any}
use Rattle.std.specs.Option.{option_map_or}
use Rattle.lump_records.specs.Limits.{item_limit}
use Rattle.lump_records.specs.Names.{IsNamed, is_name}
use Rattle.lump_records.specs.Sides.{has_left}
use Rattle.lump_records.specs.declared.records.Line.{Line}
use Rattle.lump_records.specs.declared.records.Sector.{Sector}
use Rattle.lump_records.specs.declared.records.Side.{Side}
use Rattle.map_commands.specs.declared.command.Command.{Command}
use Rattle.map_commands.specs.declared.command.Command.TheVariants.{Edit}
use Rattle.map_commands.specs.Errors.{code_of}
use Rattle.map_commands.specs.declared.error.CommandError.TheVariants.{NoSector, TableFull}
use Rattle.map_tables.specs.Faults.{lacks}
use Rattle.map_tables.specs.Ranges.{IsLine, IsSide}
use Rattle.map_tables.specs.Tables.{Tables}
use Rattle.map_tables.specs.declared.edit.Edit.TheVariants.{Add, Set}
use Rattle.map_tables.specs.declared.edit.Item.TheVariants as item
use Rattle.map_shapes.specs.declared.door.Jamb.{Jamb}
use Rattle.map_shapes.specs.declared.shape.Door.{Door}

-- ---- The lines of the border

-- whether a side faces a sector
abbrev pub side_faces : List Side → ℕ → ℕ → Bool
side_faces sides n sector = option_map_or (λ s. s.sector == sector) (slice_get sides n) false

-- a line from its second end to its first: its right side is its left one
abbrev pub turned_line : Line → Line
turned_line l = record l { v1 = l.v2; v2 = l.v1; right = l.left; left = l.right }

-- a line as an opening of the sector, with the sector behind it: none if the sector is on both of
-- its sides, or on neither
abbrev pub opening_by : Bool → Bool → Line → Option Line
opening_by true false l = Some (turned_line l)
opening_by false true l = Some l
opening_by _ _ l = None

-- the same by the sides that the line has
abbrev pub opening : List Side → ℕ → Line → Option Line
opening sides sector l =
    if has_left l
    then opening_by (side_faces sides l.right sector) (side_faces sides l.left sector) l else None

-- whether a line is a wall of the sector
abbrev pub is_wall_of : List Side → ℕ → Line → Bool
is_wall_of sides sector l = not (has_left l) && side_faces sides l.right sector

-- flags with the value 16: the lower texture stands on its bottom
abbrev pub with_lower_pegged : ℕ → ℕ
with_lower_pegged flags = if flags / 16 % 2 == 0 then flags + 16 else flags

-- ---- What they become

-- an opening: its special, and the face above it
abbrev pub opening_jamb : Door → Line → Option Side → Option Jamb
opening_jamb d l None = None
opening_jamb d l (Some s) = Some (record {
  line = record l { special = d.special };
  side = record s { upper = d.face };
})

-- a wall: the track, which stays where it is
abbrev pub wall_jamb : Door → Line → Option Side → Option Jamb
wall_jamb d l None = None
wall_jamb d l (Some s) = Some (record {
  line = record l { flags = with_lower_pegged l.flags };
  side = record s { middle = d.track };
})

-- a line of the border and its right side, as they are to be
abbrev pub jamb_by : Tables → Door → Line → Option Line → Option Jamb
jamb_by m d l (Some o) = opening_jamb d o (slice_get m.sides o.right)
jamb_by m d l None =
    if is_wall_of m.sides d.sector l then wall_jamb d l (slice_get m.sides l.right) else None

-- the same of any line: none if it isn't of the border
abbrev pub jamb_of : Tables → Door → Line → Option Jamb
jamb_of m d l = jamb_by m d l (opening m.sides d.sector l)

-- ---- The commands

-- how often lines have a side
abbrev pub side_uses : List Line → ℕ → ℕ
side_uses lines n = count_by (λ l. l.right == n) lines + count_by (λ l. l.left == n) lines

-- whether more than one line has it, or one on both sides
abbrev pub is_shared : List Line → ℕ → Bool
is_shared lines n = nat_lt 1 (side_uses lines n)

-- the line's right side in its place, or as a new one if it is shared; then the line
abbrev pub jamb_commands : Bool → ℕ → ℕ → Jamb → List Command
jamb_commands true next n j =
    Edit (Add (item.Side j.side)) ∷ Edit (Set n (item.Line (record j.line { right = next }))) ∷ []
jamb_commands false next n j =
    Edit (Set j.line.right (item.Side j.side)) ∷ Edit (Set n (item.Line j.line)) ∷ []

-- the commands of a line that is of the border, or of one that isn't
abbrev pub line_commands : List Line → ℕ → ℕ → Option Jamb → List Command
line_commands lines next n None = []
line_commands lines next n (Some j) = jamb_commands (is_shared lines j.line.right) next n j

-- how many sides they add
abbrev pub sides_added : List Line → Option Jamb → ℕ
sides_added lines None = 0
sides_added lines (Some j) = if is_shared lines j.line.right then 1 else 0

-- how many sides the commands of some lines add
abbrev pub lines_sides : Tables → Door → List Line → ℕ
lines_sides m d ls = sum_by (λ l. sides_added m.lines (jamb_of m d l)) ls

-- the commands of the lines from number n on, where the first new side gets the number `next`
abbrev pub lines_commands : Tables → Door → ℕ → ℕ → List Line → List Command
lines_commands m d next n [] = []
lines_commands m d next n (l ∷ ls) =
    line_commands m.lines next n (jamb_of m d l)
    ++ lines_commands m d (next + sides_added m.lines (jamb_of m d l)) (n + 1) ls

-- the sector with its ceiling on its floor
abbrev pub shut : Sector → Sector
shut s = record s { ceiling = s.floor }

-- all commands: the sector's, then those of the lines of its border, by number
abbrev pub door_commands : Tables → Door → Sector → List Command
door_commands m d s =
    Edit (Set d.sector (item.Sector (shut s))) ∷ lines_commands m d (length m.sides) 0 m.lines

-- ---- The refusals

-- the number of the refusal of a sector without an opening
abbrev pub no_door : ℕ
no_door = 29

-- why a sector can't become a door, by rising code
abbrev pub door_faults : Tables → Door → List (ℕ × Bool)
door_faults m d =
    (code_of NoSector, lacks m.sectors d.sector)
    ∷ (code_of TableFull, nat_lt item_limit (length m.sides + lines_sides m d m.lines))
    ∷ (no_door, not (list_any (λ l. is_some (opening m.sides d.sector l)) m.lines)) ∷ []

-- the door's names and its special are in their ranges
pub record IsDoor (d : Door) : Type 0 where
  pub sector : d.sector ≤ 4095
  pub face : IsNamed is_name d.face
  pub track : IsNamed is_name d.track
  pub special : d.special ≤ 32767

-- a line of the border and its right side are in their ranges
pub record IsJamb (j : Jamb) : Type 0 where
  pub line : IsLine j.line
  pub side : IsSide j.side
