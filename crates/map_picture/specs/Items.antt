-- The items that a line names.
use Rattle.std.specs.Prelude.{ℕ, slice_get}
use Rattle.std.specs.Option.{option_map_or}
use Rattle.map_tables.specs.Tables.{Tables}

-- the sector of the side with the number, 0 past the last one
abbrev pub sector_of : Tables → ℕ → ℕ
sector_of m n = option_map_or (λ s. s.sector) (slice_get m.sides n) 0
