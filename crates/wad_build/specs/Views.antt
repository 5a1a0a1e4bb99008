-- The levels to write, as contracts see them.
use Rattle.std.specs.Prelude.{List, flat_map, map}
use Rattle.wad_file.specs.Placed.{Placed}
use Rattle.wad_levels.specs.Levels.{Lumps}
use Rattle.wad_build.specs.Sizes.{sized_lumps}
use Rattle.wad_build.specs.Sound.{no_rejects}
use Rattle.wad_build.specs.Wad.{Part, level_part}
use Rattle.wad_build.specs.declared.levels.BuiltLevel.{BuiltLevel}
use Rattle.wad_build.specs.declared.levels.NamedLevel.{NamedLevel}

-- what a level that was built holds: the drawn lists are its map's
abbrev pub built_view : BuiltLevel → Lumps
built_view l =
    record {
      things = l.map.now.tables.things;
      lines = l.map.now.tables.lines;
      sides = l.map.now.tables.sides;
      vertices = l.tree.vertices.items;
      segs = l.tree.segs.items;
      subs = l.tree.subs.items;
      nodes = l.tree.nodes.items;
      sectors = l.map.now.tables.sectors;
      reject = no_rejects l.sectors;
      blockmap = l.blockmap.items;
    }

-- the bytes of the lumps of the levels to write
abbrev pub level_parts : List NamedLevel → List Part
level_parts levels = map (λ l. level_part l.name (built_view l.level)) levels

-- the lumps of the levels to write, by their sizes
abbrev pub sized_levels : List NamedLevel → List Placed
sized_levels levels = flat_map (λ x. sized_lumps x.name (built_view x.level)) levels
