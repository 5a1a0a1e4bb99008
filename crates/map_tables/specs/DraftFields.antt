-- The draft that the fields represent.
use Rattle.map_tables.specs.declared.map.draft.Draft.TheInside.{Inside}
use Rattle.map_tables.specs.Tables.{Tables}

-- the name and the tables
abbrev pub drafted : Inside → Tables
drafted a =
    record {
      name = a.name;
      vertices = a.vertices.items;
      sectors = a.sectors.items;
      sides = a.sides.items;
      lines = a.lines.items;
      things = a.things.items;
    }
