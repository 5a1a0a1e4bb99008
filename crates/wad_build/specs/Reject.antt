-- The length of REJECT (docs/FORMAT.md, "REJECT and BLOCKMAP").
use Rattle.std.specs.Prelude.{ℕ, ◌+◌, ◌*◌, ◌/◌}

-- a bit for each pair of sectors, rounded up to whole bytes
abbrev pub reject_size : ℕ → ℕ
reject_size sectors = (sectors * sectors + 7) / 8
