-- How many items a map's tables may have (docs/FORMAT.md, "Limits").
use Rattle.std.specs.Prelude.{ℕ}

-- vertices, sides, lines or things
abbrev pub item_limit : ℕ
item_limit = 32767

-- sectors
abbrev pub sector_limit : ℕ
sector_limit = 4096
