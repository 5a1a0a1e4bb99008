-- Relations of areas of a file.
use Rattle.std.specs.Prelude.{◌≤◌, ◌⊎◌, ◌+◌, ℕ}
use Rattle.store_disk.specs.declared.area.Area.{Area}

-- the area lies outside the n bytes from `at` on
abbrev pub IsApart : Area → ℕ → ℕ → Type 0
IsApart area at n = (area.base + area.length ≤ at) ⊎ (at + n ≤ area.base)
