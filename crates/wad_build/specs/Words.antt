-- Bytes read as 16-bit words.
use Rattle.std.specs.Prelude.{ℕ, List}
use Rattle.lump_records.specs.Fields.{unsigned_at}
use Rattle.lump_records.specs.Lumps.{records_of}

abbrev pub words : List ℕ → List ℕ
words bytes = records_of (unsigned_at 0) 2 bytes
