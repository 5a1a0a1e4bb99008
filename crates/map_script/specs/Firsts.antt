-- The first item of each kind that a command adds to the current map.
use Rattle.std.specs.Prelude.{ℕ, zero, suc, nat_lt, if◌then◌else◌, Option, Some, None}
use Rattle.map_tables.specs.declared.kind.Kind.{Kind}
use Rattle.map_tables.specs.declared.kind.Kind.TheVariants as kind
use Rattle.map_tables.specs.declared.edit.Need.{Need}
use Rattle.map_tables.specs.Tables.{Tables, count_of}
use Rattle.map_commands.specs.ProjectReadiness.{project_need_of}
use Rattle.map_commands.specs.declared.project.command.ProjectCommand.{ProjectCommand}
use Rattle.map_script.specs.declared.firsts.Firsts.{Firsts}
use Rattle.map_script.specs.declared.firsts.ItemCounts.{ItemCounts}

-- the number of the first of some items that are appended to a table, if there are any
abbrev pub first_new : ℕ → ℕ → Option ℕ
first_new zero before = None
first_new (suc more) before = Some before

-- the first items of each kind, if these numbers of items are added to a map
abbrev pub firsts_in : Need → Tables → Firsts
firsts_in need m = record {
  vertex = first_new need.vertices (count_of m kind.Vertex);
  sector = first_new need.sectors (count_of m kind.Sector);
  side = first_new need.sides (count_of m kind.Side);
  line = first_new need.lines (count_of m kind.Line);
  thing = first_new need.things (count_of m kind.Thing);
}

-- the first items that a command adds to the current map
abbrev pub firsts_of : ProjectCommand → Tables → Firsts
firsts_of c m = firsts_in (project_need_of c) m

-- how many items a map has of each kind
abbrev pub counts_of : Tables → ItemCounts
counts_of m = record {
  vertices = count_of m kind.Vertex;
  sectors = count_of m kind.Sector;
  sides = count_of m kind.Side;
  lines = count_of m kind.Line;
  things = count_of m kind.Thing;
}

-- the number of the first item that a table has gained, if it has
abbrev pub first_gained : ℕ → ℕ → Option ℕ
first_gained before after = if nat_lt before after then Some before else None

-- the first items of each kind that a map has gained since it had these counts
abbrev pub firsts_since : ItemCounts → Tables → Firsts
firsts_since before m = record {
  vertex = first_gained before.vertices (count_of m kind.Vertex);
  sector = first_gained before.sectors (count_of m kind.Sector);
  side = first_gained before.sides (count_of m kind.Side);
  line = first_gained before.lines (count_of m kind.Line);
  thing = first_gained before.things (count_of m kind.Thing);
}

-- the first item of a kind
abbrev pub first_of : Firsts → Kind → Option ℕ
first_of f kind.Vertex = f.vertex
first_of f kind.Sector = f.sector
first_of f kind.Side = f.side
first_of f kind.Line = f.line
first_of f kind.Thing = f.thing
