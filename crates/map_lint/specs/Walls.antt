-- The walls of a line.
use Rattle.std.specs.Prelude.{Bool, true, false, ◌||◌, not, List, [], ◌∷◌}
use Rattle.lump_records.specs.Sides.{has_left}
use Rattle.lump_records.specs.declared.records.Line.{Line}
use Rattle.lump_records.specs.declared.records.Name8.{Name8}
use Rattle.lump_records.specs.declared.records.Side.{Side}
use Rattle.map_tables.specs.Tables.{Tables}
use Rattle.map_checks.specs.Textures.{own_side, side_in}
use Rattle.map_lint.specs.declared.wall.Part.{Part}
use Rattle.map_lint.specs.declared.wall.Part.TheVariants.{Upper, Lower, Middle}
use Rattle.map_lint.specs.declared.wall.Wall.{Wall}

-- the walls of a line, the right ones before the left ones
abbrev pub line_walls : List Wall
line_walls =
    record { is_left = false; part = Upper } ∷ record { is_left = false; part = Lower }
    ∷ record { is_left = false; part = Middle } ∷ record { is_left = true; part = Upper }
    ∷ record { is_left = true; part = Lower } ∷ record { is_left = true; part = Middle } ∷ []

-- the line has a side with the wall
abbrev pub has_wall : Line → Wall → Bool
has_wall l w = not w.is_left || has_left l

-- the name of a part of the side
abbrev pub name_of_part : Side → Part → Name8
name_of_part s Upper = s.upper
name_of_part s Lower = s.lower
name_of_part s Middle = s.middle

-- the name on the line's wall
abbrev pub name_on : Tables → Line → Wall → Name8
name_on m l w = name_of_part (side_in m (own_side l w.is_left)) w.part
