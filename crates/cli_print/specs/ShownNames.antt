-- How a name that may hold any bytes is shown.
use Rattle.std.specs.Prelude.{ℕ, nat_le, ◌&&◌, if◌then◌else◌}

-- a byte of a name as it is shown: `?` where it is no visible character
abbrev pub shown : ℕ → ℕ
shown byte = if nat_le 33 byte && nat_le byte 126 then byte else 63
