-- Where a thing stands.
use Rattle.lump_records.specs.declared.records.Thing.{Thing}
use Rattle.lump_records.specs.declared.records.Vertex.{Vertex}

-- the place of a thing
abbrev pub thing_place : Thing → Vertex
thing_place t = record { x = t.x; y = t.y }
