-- Tags: the numbers that connect a line's special with sectors, and marks of those that are in use.
use Rattle.std.specs.Prelude.{◌≡◌, ℕ, ◌<◌, Bool, false, ◌==◌, List, length, get_or, unsigned_abs}
use Rattle.std.specs.List.{list_any}
use Rattle.lump_records.specs.declared.records.Sector.{Sector}

-- a sector's tag, which is never negative
abbrev pub tag_of : Sector → ℕ
tag_of s = unsigned_abs s.tag

-- the mark of each tag says whether an item has it
pub record MarksTags {X : Type 0} (tag : X → ℕ) (xs : List X) (marks : List Bool) : Type 0 where
  pub count : length marks ≡ 65536
  pub marked : (t : ℕ) → t < 65536 → get_or marks t false ≡ list_any (λ x. tag x == t) xs
