-- What `split` makes of a map, and why it is refused.
use Rattle.std.specs.Prelude.{ℕ, Bool, ◌||◌, List, [], ◌∷◌, ◌++◌, length, get_or, slice_set}
use Rattle.lump_records.specs.declared.records.Line.{Line}
use Rattle.lump_records.specs.declared.records.Vertex.{Vertex}
use Rattle.map_commands.specs.declared.error.CommandError.TheVariants.{NoLine, PlaceTaken, TableFull, LineTooLong}
use Rattle.map_commands.specs.Errors.{code_of}
use Rattle.map_tables.specs.Tables.{Tables}
use Rattle.map_tables.specs.Faults.{is_taken, is_too_long, lacks, lacks_room}
use Rattle.map_commands.specs.Rooms.{wall}
use Rattle.map_commands.specs.declared.command.LineSplit.{LineSplit}

-- the line of a number, and some line past the last
abbrev pub line_or_some : List Line → ℕ → Line
line_or_some ls n = get_or ls n (wall 0 0 0)

-- the line that is split, which now ends at the new vertex
abbrev pub cut_short : Line → ℕ → Line
cut_short l vertex = record l { v2 = vertex }

-- the new line, from the new vertex to the old end, with the same other fields and sides
abbrev pub cut_off : Line → ℕ → Line
cut_off l vertex = record l { v1 = vertex }

-- the map with the new vertex, the line cut short, and the new line last
abbrev pub with_split : Tables → LineSplit → Tables
with_split m s =
    let line = line_or_some m.lines s.line in
    let vertex = length m.vertices in
    record m {
      vertices = m.vertices ++ s.at ∷ [];
      lines = slice_set m.lines s.line (cut_short line vertex) ++ cut_off line vertex ∷ [];
    }

-- PlaceTaken where the place is, TableFull where a table is, LineTooLong where a half of the line
-- is too long
abbrev pub cut_faults : Tables → Line → Vertex → List (ℕ × Bool)
cut_faults m line at =
    let vertex = length m.vertices in
    let vertices = m.vertices ++ at ∷ [] in
    (code_of PlaceTaken, is_taken m.vertices at)
    ∷ (code_of TableFull, lacks_room m.vertices 1 || lacks_room m.lines 1)
    ∷ (
      code_of LineTooLong,
      is_too_long vertices (cut_short line vertex)
          || is_too_long vertices (cut_off line vertex),
    ) ∷ []

-- the same, and before it 6 where there is no such line
abbrev pub split_faults : Tables → LineSplit → List (ℕ × Bool)
split_faults m s = (code_of NoLine, lacks m.lines s.line)
    ∷ cut_faults m (line_or_some m.lines s.line) s.at
