-- The value that the fields of a `Map` represent, and their invariant.
use Rattle.std.specs.Prelude.{map}
use Rattle.map_tables.specs.declared.map.Map.TheInside.{Inside}
use Rattle.map_tables.specs.Tables.{MapView, Tables}
use Rattle.map_tables.specs.WellFormed.{WellFormed}
use Rattle.map_tables.specs.Keyed.{line_of, side_of}

-- the name, and each table with numbers in place of keys
abbrev pub tables_of : Inside → Tables
tables_of a =
    record {
      name = a.name;
      vertices = a.vertices.items;
      sectors = a.sectors.items;
      sides = map (side_of a.sectors.keys) a.sides.items;
      lines = map (line_of a.vertices.keys a.sides.keys) a.lines.items;
      things = a.things.items;
    }

-- the tables, and how many more items each table has room for
abbrev pub view_of_map : Inside → MapView
view_of_map a =
    record {
      tables = tables_of a;
      spare = record {
        vertices = a.vertices.spare;
        sectors = a.sectors.spare;
        sides = a.sides.spare;
        lines = a.lines.spare;
        things = a.things.spare;
      };
    }

-- every map is well-formed
abbrev pub KeepsTables : Inside → Type 0
KeepsTables a = WellFormed (tables_of a)
