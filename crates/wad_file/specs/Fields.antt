-- The fields of a WAD's lists.
use Rattle.std.specs.Prelude.{ℕ, ◌+◌, ◌*◌, Bool, nat_eq, List}
use Rattle.std.specs.Cmp.Lexicographic.{pointwise}
use Rattle.lump_records.specs.Fields.{unsigned_at}

-- the number of 32 bits at place i, the lower bytes first
abbrev pub long_at : ℕ → List ℕ → ℕ
long_at i bytes = unsigned_at i bytes + 65536 * unsigned_at (i + 2) bytes

-- byte for byte the same
abbrev pub same_bytes : List ℕ → List ℕ → Bool
same_bytes a b = pointwise nat_eq a b
