-- What contracts see of a level, and of a refusal to read one.
use Rattle.std.specs.Prelude.{◌≡◌, ℕ, List, Some}
use Rattle.wad_levels.specs.declared.level.Level.{Level}
use Rattle.wad_levels.specs.declared.error.ReadError.{ReadError}
use Rattle.wad_levels.specs.declared.error.ReadError.TheVariants.{OutOfMemory}
use Rattle.wad_levels.specs.Levels.{Lumps, refusal}

-- the lists of a level
abbrev pub view : Level → Lumps
view l =
    record {
      things = l.things.items;
      lines = l.lines.items;
      sides = l.sides.items;
      vertices = l.vertices.items;
      segs = l.segs.items;
      subs = l.subs.items;
      nodes = l.nodes.items;
      sectors = l.sectors.items;
      reject = l.reject.items;
      blockmap = l.blockmap.items;
    }

-- the first refusal that holds, or lack of memory
abbrev pub RefusesLevel : List ℕ → List ℕ → ReadError → Type 0
RefusesLevel wad name OutOfMemory = Unit {0}
RefusesLevel wad name e = refusal wad name ≡ Some e
