-- The map that a request names.
use Rattle.std.specs.Prelude.{ℕ, Bool, List}
use Rattle.std.specs.Str.{bytes_eq}
use Rattle.lump_records.specs.Names.{name_text}
use Rattle.map_tables.specs.Tables.{Tables}

-- the map is called so
abbrev pub is_called : List ℕ → Tables → Bool
is_called name m = bytes_eq (name_text m.name) name
