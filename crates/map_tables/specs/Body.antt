-- The bytes of a map's body, version 1, and of each of its lumps.
use Rattle.std.specs.Prelude.{◌≡◌, ◌≢◌, ℕ, List, ◌++◌, flat_map, drop}
use Rattle.lump_records.specs.Fields.{unsigned}
use Rattle.lump_records.specs.Records.{thing_record, line_record, side_record, vertex_record, sector_record}
use Rattle.map_tables.specs.declared.kind.Kind.{Kind}
use Rattle.map_tables.specs.declared.kind.Kind.TheVariants as kind
use Rattle.map_tables.specs.declared.error.MapError.{MapError}
use Rattle.map_tables.specs.Tables.{Tables}
use Rattle.map_tables.specs.WellFormed.{WellFormed}
use Rattle.map_tables.specs.Parts.{part, tables_in, RefusesFor}

-- the records of a table, one after another
abbrev pub lump_of : Tables → Kind → List ℕ
lump_of m kind.Vertex = flat_map vertex_record m.vertices
lump_of m kind.Sector = flat_map sector_record m.sectors
lump_of m kind.Side = flat_map side_record m.sides
lump_of m kind.Line = flat_map line_record m.lines
lump_of m kind.Thing = flat_map thing_record m.things

-- the version, followed by the map's part
abbrev pub body : Tables → List ℕ
body m = unsigned 1 ++ part m

-- no well-formed map has these bytes
abbrev pub NoMapHas : List ℕ → Type 0
NoMapHas bytes = (m : Tables) → WellFormed m → body m ≢ bytes

-- the map is well-formed, it has these bytes, and no other well-formed map has them
pub record IsMapOf (bytes : List ℕ) (m : Tables) : Type 0 where
  pub well_formed : WellFormed m
  pub encoded : body m ≡ bytes
  pub only : (other : Tables) → WellFormed other → body other ≡ bytes → other ≡ m

-- reading a body fails because no well-formed map has the bytes, or memory runs out
abbrev pub RefusesBody : List ℕ → MapError → Type 0
RefusesBody bytes = RefusesFor (NoMapHas bytes)

-- the name and the tables that a map's body holds
abbrev pub tables_at : List ℕ → Tables
tables_at bytes = tables_in (drop 2 bytes)
