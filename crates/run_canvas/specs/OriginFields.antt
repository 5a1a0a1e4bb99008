-- What a contract sees of the lists of origins of a map's items.
use Rattle.std.specs.Prelude.{ℕ, ◌+◌, ◌≤◌, Vec, vec_capacity, vec_len}
use Rattle.std.specs.Global.{Global}
use Rattle.map_tables.specs.declared.edit.Need.{Need}
use Rattle.run_canvas.specs.Origins.{ItemOrigins}
use Rattle.run_canvas.specs.declared.map_origins.MapOrigins.{MapOrigins}

-- the origins of a map's items
abbrev pub item_origins : MapOrigins → ItemOrigins
item_origins o = record {
  vertices = o.vertices.items;
  sectors = o.sectors.items;
  sides = o.sides.items;
  lines = o.lines.items;
  things = o.things.items;
}

-- so many origins more fit without allocating
abbrev pub FitsMore : Vec ℕ Global → ℕ → Type 0
FitsMore list count = vec_len list + count ≤ vec_capacity list

-- so many of each kind do
pub record FitsOrigins (need : Need) (o : MapOrigins) : Type 0 where
  pub vertices : FitsMore o.vertices need.vertices
  pub sectors : FitsMore o.sectors need.sectors
  pub sides : FitsMore o.sides need.sides
  pub lines : FitsMore o.lines need.lines
  pub things : FitsMore o.things need.things
