-- What is found in a map: lists of its items, in a fixed order.
use Rattle.std.specs.Prelude.{Bool, if◌then◌else◌, List, [], ◌∷◌, ◌++◌, flat_map, pos}
use Rattle.std.specs.Ordering.{int_eq}
use Rattle.std.specs.List.{list_any, enumerate_from}
use Rattle.lump_records.specs.declared.records.Thing.{Thing}
use Rattle.map_tables.specs.Tables.{Tables}
use Rattle.map_checks.specs.declared.finding.Finding.{Finding}
use Rattle.map_checks.specs.declared.finding.Finding.TheVariants.{NoPlayerStart}
use Rattle.map_checks.specs.Unused.{item_numbers, unused_vertices, unused_sides, unused_sectors}
use Rattle.map_checks.specs.Textures.{line_misses}
use Rattle.map_checks.specs.Corners.{open_corners}

-- whether a thing is the first player's start
abbrev pub is_start : Thing → Bool
is_start t = int_eq t.kind (pos 1)

-- the textures that the lines miss, by line
abbrev pub missing_textures : Tables → List Finding
missing_textures m = flat_map (line_misses m) (enumerate_from 0 m.lines)

-- the open corners of all sectors, by sector and then by vertex
abbrev pub open_sectors : Tables → List Finding
open_sectors m = flat_map (open_corners m) (item_numbers m.sectors)

-- the finding that there is no start, if no thing is one
abbrev pub missing_start : Tables → List Finding
missing_start m = if list_any is_start m.things then [] else NoPlayerStart ∷ []

-- all findings: unused vertices, sides and sectors, missing textures, open sectors, no start
abbrev pub findings : Tables → List Finding
findings m =
    unused_vertices m ++ unused_sides m ++ unused_sectors m ++ missing_textures m ++ open_sectors m
    ++ missing_start m
